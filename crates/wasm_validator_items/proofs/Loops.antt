-- What loops over the items of a section keep, where what all items lead to is known of those that are left.
use Rattle.std.proofs.Common.{◌≡◌, refl, sym, ◌∙◌, ℕ, zero, suc, ◌-◌, ◌<◌, List, length, eqb, true, false, Option, Some, None, arith}
use Rattle.wasm_validator_items.specs.Machine.{items_from}

module _ {S : Type 0} (step : S → List ℕ → Option (S × List ℕ)) where
  less : (left : ℕ) (bytes more : List ℕ) (s t : S) → 0 < left → step s bytes ≡ Some (t, more) → items_from step (left - 1) more t ≡ items_from step left bytes s
  less zero bytes more s t h e = absurd (omega arith)
  less (suc n) bytes more s t h e =
      let back : suc n - 1 ≡ n = omega arith in
      rw (back, e) refl

  -- one item less is left
  pub one_less : (left : ℕ) (bytes more : List ℕ) (s t : S) (all : Option S) → 0 < left → step s bytes ≡ Some (t, more) → items_from step left bytes s ≡ all → items_from step (left - 1) more t ≡ all
  one_less left bytes more s t all h e so = less left bytes more s t h e ∙ so

  -- where the next item isn't there, they aren't all
  pub none_here : (left : ℕ) (bytes : List ℕ) (s : S) (all : Option S) → 0 < left → items_from step left bytes s ≡ all → step s bytes ≡ None → all ≡ None
  none_here zero bytes s all h so e = absurd (omega arith)
  none_here (suc n) bytes s all h so e = sym so ∙ rw (e) refl

  -- behind the last item nothing is left
  pub all_added : (left : ℕ) (bytes : List ℕ) (s : S) (all : Option S) → left ≡ 0 → eqb (length bytes) 0 ≡ true → items_from step left bytes s ≡ all → all ≡ Some s
  all_added zero bytes s all z e so = sym so ∙ rw (e) refl
  all_added (suc n) bytes s all z e so = absurd (omega arith)

  pub left_over : (left : ℕ) (bytes : List ℕ) (s : S) (all : Option S) → left ≡ 0 → eqb (length bytes) 0 ≡ false → items_from step left bytes s ≡ all → all ≡ None
  left_over zero bytes s all z e so = sym so ∙ rw (e) refl
  left_over (suc n) bytes s all z e so = absurd (omega arith)
