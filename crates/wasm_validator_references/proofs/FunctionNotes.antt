-- Functions that are noted one after another.
use Rattle.std.proofs.Common.{◌≡◌, refl, sym, ap, ◌∙◌, ℕ, zero, suc, ◌+◌, ◌-◌, ◌<◌, ◌==◌, Bool, true, false, if◌then◌else◌, List, [], ◌∷◌, ◌++◌, length, drop, get_or, Option, Some, None, option_map, arith}
use Rattle.std.specs.List.{flat_map}
use Rattle.std.specs.Option.{option_and_then}
use Rattle.std.proofs.lemmas.List.{at_drop_more}
use Rattle.std.proofs.lemmas.Option.{same_Some}
use Rattle.wasm_spec.specs.Values.{many_at, items_at}
use Rattle.wasm_validator_references.specs.Notes.{noting, names_along}
use Rattle.wasm_validator_references.specs.References.{names_if, names_at}

module _ {S : Type 0} (note : ℕ → S → S) where
  -- some, and then others
  pub noting_more : (xs ys : List ℕ) (kept : S) → noting note (xs ++ ys) kept ≡ noting note ys (noting note xs kept)
  noting_more [] ys kept = refl
  noting_more (x ∷ xs) ys kept = noting_more xs ys (note x kept)

  -- one more of those that stand in a list
  pub one_noted : (at x : ℕ) (xs : List ℕ) (kept next : S) → at < length xs → x ≡ get_or xs at 0 → next ≡ note x kept → noting note (drop (at + 1) xs) next ≡ noting note (drop at xs) kept
  one_noted at x xs kept next h is e =
      ap (noting note (drop (at + 1) xs)) (e ∙ ap (λ (y : ℕ). note y kept) is) ∙ sym (at_drop_more (λ (l : List ℕ). noting note l kept) xs at 0 h)

  module _ {V : Type 0} (reads : List ℕ → Option (V × List ℕ)) (names : V → List ℕ) where
    -- an item whose names are noted
    pub item_noted : (n : ℕ) (bytes more : List ℕ) (x : V) (kept next : S) → 0 < n → reads bytes ≡ Some (x, more) → next ≡ noting note (names_at reads names bytes) kept
        → noting note (names_along reads names (n - 1) more) next ≡ noting note (names_along reads names n bytes) kept
    item_noted zero bytes more x kept next some e f = absurd (omega (arith, some))
    item_noted (suc n) bytes more x kept next some e f =
        let back : suc n - 1 ≡ n = omega arith in
        ap (λ (k : ℕ). noting note (names_along reads names k more) next) back
        ∙ ap (noting note (names_along reads names n more)) (f ∙ ap (λ (o : Option (V × List ℕ)). noting note (names_if names o) kept) e)
        ∙ sym (noting_more (names x) (names_along reads names n more) kept)
        ∙ sym (ap (λ (o : Option (V × List ℕ)). noting note (elim o [ None ↦ [] | Some y ↦ names y.0 ++ names_along reads names n y.1 ]) kept) e)

-- nothing is kept
pub nothing_noted : {S : Type 0} (xs : List ℕ) (kept : S) → noting (λ x k. k) xs kept ≡ kept
nothing_noted [] kept = refl
nothing_noted (x ∷ xs) kept = nothing_noted xs kept

-- so many items that can be read
module _ {V : Type 0} (reads : List ℕ → Option (V × List ℕ)) (names : V → List ℕ) where
  abbrev along : ℕ → Option (V × List ℕ) → List ℕ
  along n o = elim o [ None ↦ [] | Some y ↦ names y.0 ++ names_along reads names n y.1 ]

  many_then : (n : ℕ) (x : V × List ℕ) (o : Option (List V × List ℕ)) → many_at reads n x.1 ≡ o → (xs : List V) (more : List ℕ)
      → ((bytes : List ℕ) (ys : List V) (rest : List ℕ) → many_at reads n bytes ≡ Some (ys, rest) → names_along reads names n bytes ≡ flat_map names ys)
      → option_map {U = List V × List ℕ} (λ ys. (x.0 ∷ ys.0, ys.1)) o ≡ Some (xs, more) → names x.0 ++ names_along reads names n x.1 ≡ flat_map names xs
  many_then n x None d xs more rest e = absurd cc
  many_then n x (Some ys) d xs more rest e =
      let there : List V × List ℕ = (x.0 ∷ ys.0, ys.1) in
      let same : x.0 ∷ ys.0 ≡ xs = ap (λ (p : List V × List ℕ). p.0) (same_Some there (xs, more) e) in
      ap (λ (ns : List ℕ). names x.0 ++ ns) (rest x.1 ys.0 ys.1 d) ∙ ap (flat_map names) same

  many_by : (n : ℕ) (o : Option (V × List ℕ)) (xs : List V) (more : List ℕ) → ((bytes : List ℕ) (ys : List V) (rest : List ℕ) → many_at reads n bytes ≡ Some (ys, rest) → names_along reads names n bytes ≡ flat_map names ys)
      → option_and_then (λ x. option_map {U = List V × List ℕ} (λ ys. (x.0 ∷ ys.0, ys.1)) (many_at reads n x.1)) o ≡ Some (xs, more) → along n o ≡ flat_map names xs
  many_by n None xs more rest e = absurd cc
  many_by n (Some x) xs more rest e = many_then n x (many_at reads n x.1) refl xs more rest e

  pub many_named : (n : ℕ) (bytes : List ℕ) (xs : List V) (more : List ℕ) → many_at reads n bytes ≡ Some (xs, more) → names_along reads names n bytes ≡ flat_map names xs
  many_named zero bytes xs more e = let here : List V × List ℕ = ([], bytes) in ap (λ (p : List V × List ℕ). flat_map names p.0) (same_Some here (xs, more) e)
  many_named (suc n) bytes xs more e = many_by n (reads bytes) xs more (many_named n) e

  -- and nothing behind them
  items_then : (n : ℕ) (x : V × List ℕ) (o : Option (List V)) → items_at reads n x.1 ≡ o → (xs : List V)
      → ((bytes : List ℕ) (ys : List V) → items_at reads n bytes ≡ Some ys → names_along reads names n bytes ≡ flat_map names ys)
      → option_map (λ ys. x.0 ∷ ys) o ≡ Some xs → names x.0 ++ names_along reads names n x.1 ≡ flat_map names xs
  items_then n x None d xs rest e = absurd cc
  items_then n x (Some ys) d xs rest e =
      let same : x.0 ∷ ys ≡ xs = same_Some (x.0 ∷ ys) xs e in
      ap (λ (ns : List ℕ). names x.0 ++ ns) (rest x.1 ys d) ∙ ap (flat_map names) same

  items_by : (n : ℕ) (o : Option (V × List ℕ)) (xs : List V) → ((bytes : List ℕ) (ys : List V) → items_at reads n bytes ≡ Some ys → names_along reads names n bytes ≡ flat_map names ys)
      → option_and_then (λ x. option_map (λ ys. x.0 ∷ ys) (items_at reads n x.1)) o ≡ Some xs → along n o ≡ flat_map names xs
  items_by n None xs rest e = absurd cc
  items_by n (Some x) xs rest e = items_then n x (items_at reads n x.1) refl xs rest e

  none_left : (b : Bool) (xs : List V) → (if b then Some [] else None) ≡ Some xs → [] ≡ xs
  none_left true xs e = same_Some [] xs e
  none_left false xs e = absurd cc

  pub items_named : (n : ℕ) (bytes : List ℕ) (xs : List V) → items_at reads n bytes ≡ Some xs → names_along reads names n bytes ≡ flat_map names xs
  items_named zero bytes xs e = ap (flat_map names) (none_left (length bytes == 0) xs e)
  items_named (suc n) bytes xs e = items_by n (reads bytes) xs (items_named n) e
