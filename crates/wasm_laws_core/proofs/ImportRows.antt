-- Imports that are put one by one after the others of their pair of names are in the order of first appearance.
use Rattle.std.proofs.Common.{◌≡◌, refl, sym, ap, subst, ◌∙◌, ℕ, Bool, true, false, not, ◌&&◌, ◌||◌, cond, List, [], ◌∷◌, ◌++◌, map, append-nil}
use Rattle.std.specs.Prelude.{filter}
use Rattle.std.specs.List.{list_any}
use Rattle.std.specs.Str.{bytes_eq}
use Rattle.std.specs.Cmp.Lexicographic.{nat_list_eq_equiv}
use Rattle.std.proofs.lemmas.Slice.Eq.{bytes_eq-Decides}
use Rattle.std.proofs.lemmas.Bool.{and_from}
use Rattle.std.proofs.lemmas.List.{map-append}
use Rattle.std.proofs.lemmas.List.Elements.{filter-append}
use Rattle.wasm_spec.specs.BinaryModules.{Import}
use Rattle.wasm_spec_rules.proofs.Tests.{when, unless}
use Rattle.wasm_validator_core.proofs.WasmValidatorCanonical.CanonicalTypes.{and_left, and_right}
use Rattle.wasm_validator_types.specs.Spaces.{with_import, is_pair}
use Rattle.wasm_validator_types.specs.Entities.{Entity}
use Rattle.wasm_laws_core.specs.ModuleParts.{entity_in, names_of, has_names, first_pairs, import_row, import_rows}

abbrev Pair : Type 0
Pair = List ℕ × List ℕ

-- two pairs are the same
abbrev same_pair : Pair → Pair → Bool
same_pair p q = is_pair p.0 p.1 q

pairs_equal : (p q : Pair) → same_pair p q ≡ true → p ≡ q
pairs_equal p q e =
    let a = (bytes_eq-Decides p.0 q.0).0 (and_left (bytes_eq p.0 q.0) (bytes_eq p.1 q.1) e) in
    let b = (bytes_eq-Decides p.1 q.1).0 (and_right (bytes_eq p.0 q.0) (bytes_eq p.1 q.1) e) in
    λ i. (a i, b i)

same_turned : (p q : Pair) → same_pair p q ≡ same_pair q p
same_turned p q = λ i. (nat_list_eq_equiv).symm p.0 q.0 i && (nat_list_eq_equiv).symm p.1 q.1 i

same_itself : (p : Pair) → same_pair p p ≡ true
same_itself p = and_from (bytes_eq p.0 p.0) (bytes_eq p.1 p.1) ((bytes_eq-Decides p.0 p.0).1 refl) ((bytes_eq-Decides p.1 p.1).1 refl)

or_true : (a b : Bool) → b ≡ true → (a || b) ≡ true
or_true true b e = refl
or_true false b e = e

-- one of the pairs is this one
abbrev has_pair : Pair → List Pair → Bool
has_pair p qs = list_any (same_pair p) qs

-- pairs other than p
abbrev others : Pair → List Pair → List Pair
others p qs = filter (λ (q : Pair). not (is_pair p.0 p.1 q)) qs

none_case : (p q : Pair) (qs : List Pair) (b : Bool) → same_pair p q ≡ b → has_pair p (others p qs) ≡ false → has_pair p (others p (q ∷ qs)) ≡ false
none_case p q qs true e h = ap (λ c. has_pair p (cond (not c) (q ∷ others p qs) (others p qs))) e ∙ h
none_case p q qs false e h = ap (λ c. has_pair p (cond (not c) (q ∷ others p qs) (others p qs))) e ∙ ap (λ c. c || has_pair p (others p qs)) e ∙ h

none_other : (p : Pair) (qs : List Pair) → has_pair p (others p qs) ≡ false
none_other p [] = refl
none_other p (q ∷ qs) = none_case p q qs (same_pair p q) refl (none_other p qs)

other_case : (p r q : Pair) (qs : List Pair) (b : Bool) → same_pair p q ≡ b → same_pair p r ≡ false → has_pair r (others p qs) ≡ has_pair r qs → has_pair r (others p (q ∷ qs)) ≡ has_pair r (q ∷ qs)
other_case p r q qs true e f h =
    let apart : same_pair r q ≡ false = ap (same_pair r) (sym (pairs_equal p q e)) ∙ same_turned r p ∙ f in
    ap (λ c. has_pair r (cond (not c) (q ∷ others p qs) (others p qs))) e ∙ h ∙ sym (ap (λ c. c || has_pair r qs) apart)
other_case p r q qs false e f h = ap (λ c. has_pair r (cond (not c) (q ∷ others p qs) (others p qs))) e ∙ ap (λ c. same_pair r q || c) h

still_other : (p r : Pair) (qs : List Pair) → same_pair p r ≡ false → has_pair r (others p qs) ≡ has_pair r qs
still_other p r [] e = refl
still_other p r (q ∷ qs) e = other_case p r q qs (same_pair p q) refl e (still_other p r qs e)

first_case : (p : Pair) (ps : List Pair) (r : Pair) (b : Bool) → same_pair r p ≡ b → has_pair r (first_pairs ps) ≡ has_pair r ps → has_pair r (first_pairs (p ∷ ps)) ≡ has_pair r (p ∷ ps)
first_case p ps r true e h = ap (λ c. c || has_pair r (others p (first_pairs ps))) e ∙ sym (ap (λ c. c || has_pair r ps) e)
first_case p ps r false e h = ap (λ c. same_pair r p || c) (still_other p r (first_pairs ps) (same_turned p r ∙ e) ∙ h)

-- the first appearances have the same pairs
first_has : (ps : List Pair) (r : Pair) → has_pair r (first_pairs ps) ≡ has_pair r ps
first_has [] r = refl
first_has (p ∷ ps) r = first_case p ps r (same_pair r p) refl (first_has ps r)

push_case : (p : Pair) (ps : List Pair) (r : Pair) (b : Bool) → same_pair r p ≡ b → (c : Bool) → has_pair r ps ≡ c
    → first_pairs (ps ++ r ∷ []) ≡ cond (has_pair r ps) (first_pairs ps) (first_pairs ps ++ r ∷ [])
    → first_pairs (p ∷ (ps ++ r ∷ [])) ≡ cond (has_pair r (p ∷ ps)) (first_pairs (p ∷ ps)) (first_pairs (p ∷ ps) ++ r ∷ [])
push_case p ps r b e true f h =
    let left = h ∙ when (has_pair r ps) (first_pairs ps) (first_pairs ps ++ r ∷ []) f in
    ap (λ qs. p ∷ others p qs) left ∙ sym (when (has_pair r (p ∷ ps)) (first_pairs (p ∷ ps)) (first_pairs (p ∷ ps) ++ r ∷ []) (or_true (same_pair r p) (has_pair r ps) f))
push_case p ps r true e false f h =
    let left = h ∙ unless (has_pair r ps) (first_pairs ps) (first_pairs ps ++ r ∷ []) f in
    let out : others p (r ∷ []) ≡ [] = ap (λ c. cond (not c) (r ∷ []) []) (same_turned p r ∙ e) in
    ap (λ qs. p ∷ others p qs) left
    ∙ ap (λ qs. p ∷ qs) (filter-append (λ (q : Pair). not (is_pair p.0 p.1 q)) (first_pairs ps) (r ∷ []) ∙ ap (λ qs. others p (first_pairs ps) ++ qs) out ∙ append-nil (others p (first_pairs ps)))
    ∙ sym (when (has_pair r (p ∷ ps)) (first_pairs (p ∷ ps)) (first_pairs (p ∷ ps) ++ r ∷ []) (ap (λ c. c || has_pair r ps) e))
push_case p ps r false e false f h =
    let left = h ∙ unless (has_pair r ps) (first_pairs ps) (first_pairs ps ++ r ∷ []) f in
    let kept : others p (r ∷ []) ≡ r ∷ [] = ap (λ c. cond (not c) (r ∷ []) []) (same_turned p r ∙ e) in
    ap (λ qs. p ∷ others p qs) left
    ∙ ap (λ qs. p ∷ qs) (filter-append (λ (q : Pair). not (is_pair p.0 p.1 q)) (first_pairs ps) (r ∷ []) ∙ ap (λ qs. others p (first_pairs ps) ++ qs) kept)
    ∙ sym (unless (has_pair r (p ∷ ps)) (first_pairs (p ∷ ps)) (first_pairs (p ∷ ps) ++ r ∷ []) (ap (λ c. c || has_pair r ps) e ∙ f))

-- a pair behind others
first-push : (ps : List Pair) (r : Pair) → first_pairs (ps ++ r ∷ []) ≡ cond (has_pair r ps) (first_pairs ps) (first_pairs ps ++ r ∷ [])
first-push [] r = refl
first-push (p ∷ ps) r = push_case p ps r (same_pair r p) refl (has_pair r ps) refl (first-push ps r)

-- a row for each pair
abbrev rows_by : (Pair → List Entity) → List Pair → List (Pair × List Entity)
rows_by r qs = map (λ (q : Pair). (q, r q)) qs

-- what an entity adds to the row of a pair
abbrev added : Pair → Entity → Pair → List Entity
added p e q = cond (same_pair p q) (e ∷ []) []

abbrev grown_by : (Pair → List Entity) → Pair → Entity → Pair → List Entity
grown_by r p e q = r q ++ added p e q

-- pairs that are all different
AreDifferent : List Pair → Type 0
AreDifferent [] = Unit {0}
AreDifferent (q ∷ qs) = (has_pair q qs ≡ false) × AreDifferent qs

different_case : (p q : Pair) (qs : List Pair) (b : Bool) → same_pair p q ≡ b → AreDifferent (q ∷ qs) → AreDifferent (others p qs) → AreDifferent (others p (q ∷ qs))
unfolding AreDifferent
different_case p q qs true e d h = subst (λ c. AreDifferent (cond (not c) (q ∷ others p qs) (others p qs))) (sym e) h
different_case p q qs false e d h =
    subst (λ c. AreDifferent (cond (not c) (q ∷ others p qs) (others p qs))) (sym e) ((still_other p q qs e ∙ d.0), h)

different_others : (p : Pair) (qs : List Pair) → AreDifferent qs → AreDifferent (others p qs)
unfolding AreDifferent
different_others p [] d = tt
different_others p (q ∷ qs) d = different_case p q qs (same_pair p q) refl d (different_others p qs d.1)

firsts_different : (ps : List Pair) → AreDifferent (first_pairs ps)
unfolding AreDifferent
firsts_different [] = tt
firsts_different (p ∷ ps) = (none_other p (first_pairs ps), different_others p (first_pairs ps) (firsts_different ps))

or_false_left : (a b : Bool) → (a || b) ≡ false → a ≡ false
or_false_left true b e = absurd cc
or_false_left false b e = refl

or_false_right : (a b : Bool) → (a || b) ≡ false → b ≡ false
or_false_right true b e = absurd cc
or_false_right false b e = e

push_under : {X : Type 0} (x : X) (b : Bool) (xs ys : List X) → x ∷ cond b xs (xs ++ ys) ≡ cond b (x ∷ xs) (x ∷ (xs ++ ys))
push_under x true xs ys = refl
push_under x false xs ys = refl

module _ (r : Pair → List Entity) (p : Pair) (e : Entity) where
  -- rows of other pairs are as they were
  untouched : (qs : List Pair) → has_pair p qs ≡ false → rows_by (grown_by r p e) qs ≡ rows_by r qs
  untouched [] h = refl
  untouched (q ∷ qs) h =
      let here = or_false_left (same_pair p q) (has_pair p qs) h in
      let rest = or_false_right (same_pair p q) (has_pair p qs) h in
      λ i. (q, (ap (λ b. r q ++ cond b (e ∷ []) []) here ∙ append-nil (r q)) i) ∷ untouched qs rest i

  put_case : (q : Pair) (qs : List Pair) (b : Bool) → same_pair p q ≡ b → AreDifferent (q ∷ qs)
      → with_import (rows_by r qs) p.0 p.1 e ≡ cond (has_pair p qs) (rows_by (grown_by r p e) qs) (rows_by (grown_by r p e) qs ++ (p, e ∷ []) ∷ [])
      → with_import (rows_by r (q ∷ qs)) p.0 p.1 e ≡ cond (has_pair p (q ∷ qs)) (rows_by (grown_by r p e) (q ∷ qs)) (rows_by (grown_by r p e) (q ∷ qs) ++ (p, e ∷ []) ∷ [])
  unfolding AreDifferent
  put_case q qs true f d h =
      let same : p ≡ q = pairs_equal p q f in
      let apart : has_pair p qs ≡ false = ap (λ (x : Pair). has_pair x qs) same ∙ d.0 in
      when (same_pair p q) ((q, r q ++ e ∷ []) ∷ rows_by r qs) ((q, r q) ∷ with_import (rows_by r qs) p.0 p.1 e) f
      ∙ (λ i. (q, r q ++ cond (sym f i) (e ∷ []) []) ∷ sym (untouched qs apart) i)
      ∙ sym (when (has_pair p (q ∷ qs)) (rows_by (grown_by r p e) (q ∷ qs)) (rows_by (grown_by r p e) (q ∷ qs) ++ (p, e ∷ []) ∷ []) (ap (λ c. c || has_pair p qs) f))
  put_case q qs false f d h =
      unless (same_pair p q) ((q, r q ++ e ∷ []) ∷ rows_by r qs) ((q, r q) ∷ with_import (rows_by r qs) p.0 p.1 e) f
      ∙ (λ i. (q, sym (ap (λ b. r q ++ cond b (e ∷ []) []) f ∙ append-nil (r q)) i) ∷ h i)
      ∙ push_under (q, grown_by r p e q) (has_pair p qs) (rows_by (grown_by r p e) qs) ((p, e ∷ []) ∷ [])
      ∙ sym (ap (λ c. cond (c || has_pair p qs) (rows_by (grown_by r p e) (q ∷ qs)) (rows_by (grown_by r p e) (q ∷ qs) ++ (p, e ∷ []) ∷ [])) f)

  -- the row of the pair has one more, or stands at the end
  put : (qs : List Pair) → AreDifferent qs → with_import (rows_by r qs) p.0 p.1 e ≡ cond (has_pair p qs) (rows_by (grown_by r p e) qs) (rows_by (grown_by r p e) qs ++ (p, e ∷ []) ∷ [])
  unfolding AreDifferent
  put [] d = refl
  put (q ∷ qs) d = put_case q qs (same_pair p q) refl d (put qs d.1)

-- the rows of imports, with one more
module _ (ids : List ℕ) where
  abbrev entity_of : Import ℕ → Entity
  entity_of i = entity_in ids i.ty

  abbrev entities_under : List (Import ℕ) → Pair → List Entity
  entities_under imports q = (import_row ids imports q).1

  last_row : (b : Bool) (i : Import ℕ) → map entity_of (cond b (i ∷ []) []) ≡ cond b (entity_of i ∷ []) []
  last_row true i = refl
  last_row false i = refl

  rows_same : (r s : Pair → List Entity) → ((q : Pair) → r q ≡ s q) → (qs : List Pair) → rows_by r qs ≡ rows_by s qs
  rows_same r s h [] = refl
  rows_same r s h (q ∷ qs) = λ i. (q, h q i) ∷ rows_same r s h qs i

  -- an import adds to the row of its names
  row-push : (imports : List (Import ℕ)) (i : Import ℕ) (q : Pair) → entities_under (imports ++ i ∷ []) q ≡ grown_by (entities_under imports) (names_of i) (entity_of i) q
  row-push imports i q =
      ap (map entity_of) (filter-append (has_names q) imports (i ∷ []))
      ∙ map-append entity_of (filter (has_names q) imports) (filter (has_names q) (i ∷ []))
      ∙ ap (λ (es : List Entity). entities_under imports q ++ es) (last_row (same_pair (names_of i) q) i)

  -- where no import has these names, none is under them
  no_row : (imports : List (Import ℕ)) (q : Pair) → has_pair q (map names_of imports) ≡ false → entities_under imports q ≡ []
  no_row [] q h = refl
  no_row (x ∷ imports) q h =
      let here : has_names q x ≡ false = same_turned (names_of x) q ∙ or_false_left (same_pair q (names_of x)) (has_pair q (map names_of imports)) h in
      ap (map entity_of) (unless (has_names q x) (x ∷ filter (has_names q) imports) (filter (has_names q) imports) here)
      ∙ no_row imports q (or_false_right (same_pair q (names_of x)) (has_pair q (map names_of imports)) h)

  push_rows : (imports : List (Import ℕ)) (i : Import ℕ) (b : Bool) → has_pair (names_of i) (map names_of imports) ≡ b
      → rows_by (grown_by (entities_under imports) (names_of i) (entity_of i)) (first_pairs (map names_of imports)) ≡ rows_by (entities_under (imports ++ i ∷ [])) (first_pairs (map names_of imports))
      → cond b (rows_by (grown_by (entities_under imports) (names_of i) (entity_of i)) (first_pairs (map names_of imports)))
      (rows_by (grown_by (entities_under imports) (names_of i) (entity_of i)) (first_pairs (map names_of imports)) ++ (names_of i, entity_of i ∷ []) ∷ [])
      ≡ rows_by (entities_under (imports ++ i ∷ [])) (cond b (first_pairs (map names_of imports)) (first_pairs (map names_of imports) ++ names_of i ∷ []))
  push_rows imports i true h rows = rows
  push_rows imports i false h rows =
      let p : Pair = names_of i in
      let e = entity_of i in
      let after = entities_under (imports ++ i ∷ []) in
      let alone : e ∷ [] ≡ after p = sym (row-push imports i p ∙ (λ j. no_row imports p h j ++ cond (same_itself p j) (e ∷ []) [])) in
      (λ j. rows j ++ (p, alone j) ∷ []) ∙ sym (map-append (λ (q : Pair). (q, after q)) (first_pairs (map names_of imports)) (p ∷ []))

  pub rows-push : (imports : List (Import ℕ)) (i : Import ℕ) → with_import (import_rows ids imports) i.module_name i.item_name (entity_in ids i.ty) ≡ import_rows ids (imports ++ i ∷ [])
  rows-push imports i =
      let p : Pair = names_of i in
      let names = map names_of imports in
      let qs = first_pairs names in
      let r = entities_under imports in
      let e = entity_of i in
      let after = entities_under (imports ++ i ∷ []) in
      let rows : rows_by (grown_by r p e) qs ≡ rows_by after qs = rows_same (grown_by r p e) after (λ q. sym (row-push imports i q)) qs in
      put r p e qs (firsts_different names)
      ∙ ap (λ c. cond c (rows_by (grown_by r p e) qs) (rows_by (grown_by r p e) qs ++ (p, e ∷ []) ∷ [])) (first_has names p)
      ∙ push_rows imports i (has_pair p names) refl rows
      ∙ ap (rows_by after) (sym (first-push names p) ∙ ap first_pairs (sym (map-append names_of imports (i ∷ []))))
