-- A store of ids that grows at its end.
use Rattle.std.proofs.Common.{◌≡◌, refl, ap, ◌∙◌, ⊎_elim, ℕ, ◌+◌, ◌<◌, ◌≤◌, List, [], ◌∷◌, ◌++◌, length, get_or, slice_get, Some, arith}
use Rattle.std.proofs.lemmas.Bool.{cases_lt}
use Rattle.std.proofs.lemmas.List.{length_push}
use Rattle.std.proofs.lemmas.Option.{slice_get_read, slice_get_within}
use Rattle.wasm_validator_type_groups.proofs.Places.{get-left, get-end}
use Rattle.wasm_validator_type_ancestors.specs.Entries.{SameAt, IsKept, AreCopied}

-- what stands in a list stands in a longer one
pub still-there : {X : Type 0} (xs ys : List X) (k : ℕ) (x : X) → slice_get xs k ≡ Some x → slice_get (xs ++ ys) k ≡ Some x
still-there xs ys k x e = get-left xs ys k (slice_get_within xs k x e) ∙ e

pub kept-then : (xs ys zs : List ℕ) → IsKept xs ys → IsKept ys zs → IsKept xs zs
kept-then xs ys zs h g = record { each = λ k id e. g.each k id (h.each k id e) }

pub kept-push : (new old : List ℕ) (id : ℕ) → new ≡ old ++ id ∷ [] → IsKept old new
kept-push new old id is = record { each = λ k x e. ap (λ xs. slice_get xs k) is ∙ still-there old (id ∷ []) k x e }

pub same-kept : (xs ys : List ℕ) (i j : ℕ) → IsKept xs ys → SameAt xs i j → SameAt ys i j
same-kept xs ys i j h s = record { id = s.id; here = h.each i s.id s.here; there = h.each j s.id s.there }

pub copied-kept : (xs ys : List ℕ) (from to n : ℕ) → IsKept xs ys → AreCopied xs from to n → AreCopied ys from to n
copied-kept xs ys from to n h c = record { each = λ j l. same-kept xs ys (to + j) (from + j) h (c.each j l) }

-- one id more
pub copied-push : (new old : List ℕ) (from to i id : ℕ) → new ≡ old ++ id ∷ [] → length old ≡ to + i → from + i < length old → id ≡ get_or old (from + i) id → AreCopied old from to i → AreCopied new from to (i + 1)
copied-push new old from to i id is n l read c =
    let kept = kept-push new old id is in
    record {
      each = λ j k. ⊎_elim
          (λ (less : j < i). same-kept old new (to + j) (from + j) kept (c.each j less))
          (λ (more : i ≤ j).
          let at : to + j ≡ length old = omega (arith, k, more, n) in
          let source : from + j ≡ from + i = omega (arith, k, more) in
          record {
            id = id;
            here = ap (λ xs. slice_get xs (to + j)) is ∙ ap (slice_get (old ++ id ∷ [])) at ∙ get-end old id;
            there = kept.each (from + j) id (ap (slice_get old) source ∙ slice_get_read old (length old) (from + i) id refl l read);
          })
          (cases_lt j i);
    }

-- what is put at the end
pub one-longer : {X : Type 0} (new old : List X) (x : X) → new ≡ old ++ x ∷ [] → length new ≡ length old + 1
one-longer new old x is = ap length is ∙ length_push old x

pub last-there : (new old : List ℕ) (id k : ℕ) → new ≡ old ++ id ∷ [] → k ≡ length old → slice_get new k ≡ Some id
last-there new old id k is n = ap (λ xs. slice_get xs k) is ∙ ap (slice_get (old ++ id ∷ [])) n ∙ get-end old id
