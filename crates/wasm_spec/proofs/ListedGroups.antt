-- The types of a list of groups over ids.
use Rattle.std.proofs.Common.{◌≡◌, refl, sym, ap, ◌∙◌, ℕ, zero, suc, Bool, ◌<◌, ◌≤◌, ◌-◌, List, [], ◌∷◌, ◌++◌, map, length, slice_get, Option, Some, None, All, append_assoc, append-nil, arith}
use Rattle.std.specs.List.{AllByRecursion}
use Rattle.std.proofs.lemmas.List.Elements.{recursion_from_All}
use Rattle.std.proofs.lemmas.Option.{none-some, slice_get_within, slice_get_past}
use Rattle.wasm_spec.specs.Syntax.{Sub, map_sub}
use Rattle.wasm_spec.specs.References.{refs_sub}
use Rattle.wasm_spec.specs.Trees.{TypeUse, local, outer, DefType, close}
use Rattle.wasm_spec.specs.Closing.{start_unless, use_of, resolve, positions}
use Rattle.wasm_spec.specs.TypeLists.{ListedUse, by_id, by_position, use_of_id, resolve_listed, listed_use, listed_from, listed_tree, with_listed, with_all_listed, types_of}
use Rattle.wasm_spec.specs.TypeLaws.{AppendedListedGroup, EarlierIdsStay, HasNoRepetition, IsKnownUse, EqualTreesEqualListedGroups, AreIdsOf, ListedGroupIsWrittenGroup}
use Rattle.wasm_spec.proofs.Agreement.{map_sub-undone}
use Rattle.wasm_spec.proofs.Closing.{equal_trees_equal_groups, slice_get-append_left}
use Rattle.wasm_spec.proofs.SyntaxMaps.{map-map_by, map_sub-map}
use Rattle.wasm_spec.proofs.Matching.{some-injective}
use Rattle.wasm_spec.proofs.DecidableEquality.{type_discrete}

module _ (c : Bool) where
  all-append : (gs hs : List (List (Sub ListedUse))) (ts : List DefType) → with_all_listed c ts (gs ++ hs) ≡ with_all_listed c (with_all_listed c ts gs) hs
  all-append [] hs ts = refl
  all-append (g ∷ gs) hs ts = all-append gs hs (with_listed c ts g)

  goes_on : (gs : List (List (Sub ListedUse))) (ts : List DefType) → (rest : List DefType) × (with_all_listed c ts gs ≡ ts ++ rest)
  goes_on [] ts = ([], sym (append-nil ts))
  goes_on (g ∷ gs) ts =
      let here = positions (listed_tree c ts g) 0 g in
      let h = goes_on gs (ts ++ here) in
      (here ++ h.0, h.1 ∙ append_assoc ts here h.0)

pub appended_listed_group : AppendedListedGroup
appended_listed_group c gs g = all-append c gs (g ∷ []) []

pub earlier_ids_stay : EarlierIdsStay
earlier_ids_stay c gs hs k l =
    let h = goes_on c hs (types_of c gs) in
    ap (λ ts. slice_get ts k) (all-append c gs hs [] ∙ h.1) ∙ slice_get-append_left (types_of c gs) h.0 k l

-- the first place of a type in a list
abbrev id_in : List DefType → DefType → ℕ
id_in [] d = 0
id_in (x ∷ xs) d = elim (type_discrete x d) [ yes e ↦ 0 | no h ↦ suc (id_in xs d) ]

found_here : (x : DefType) (xs : List DefType) (k : ℕ) (d : DefType) (o : Dec (x ≡ d)) → ((j : ℕ) → slice_get xs j ≡ Some d → slice_get xs (id_in xs d) ≡ Some d) → slice_get (x ∷ xs) k ≡ Some d → slice_get (x ∷ xs) (elim o [ yes e ↦ 0 | no h ↦ suc (id_in xs d) ]) ≡ Some d
found_here x xs k d (yes f) g e = ap Some f
found_here x xs zero d (no h) g e = absurd (h (some-injective x d e))
found_here x xs (suc k) d (no h) g e = g k e

found_in : (xs : List DefType) (k : ℕ) (d : DefType) → slice_get xs k ≡ Some d → slice_get xs (id_in xs d) ≡ Some d
found_in [] k d e = absurd (none-some d e)
found_in (x ∷ xs) k d e = found_here x xs k d (type_discrete x d) (λ j f. found_in xs j d f) e

within : (xs : List DefType) (k : ℕ) → slice_get xs k ≡ None → k < length xs → ⊥
within [] k e h = omega (arith, h)
within (x ∷ xs) zero e h = none-some x (sym e)
within (x ∷ xs) (suc k) e h = within xs k e (omega (arith, h))

found_at : (xs : List DefType) (k : ℕ) → k < length xs → (d : DefType) × (slice_get xs k ≡ Some d)
found_at [] k h = absurd (omega (arith, h))
found_at (x ∷ xs) zero h = (x, refl)
found_at (x ∷ xs) (suc k) h = found_at xs k (omega (arith, h))

not_below : (ids : List ℕ) (ts : List DefType) (k : ℕ) → length ids ≡ length ts → slice_get ids k ≡ None → length ts ≤ k
not_below [] ts k e f = omega (arith, e)
not_below (x ∷ xs) ts zero e f = absurd (none-some x (sym f))
not_below (x ∷ xs) [] (suc k) e f = omega arith
not_below (x ∷ xs) (t ∷ ts) (suc k) e f = let l : length ts ≤ k = not_below xs ts k (omega (arith, e)) f in omega (arith, l)

module _ (ts : List DefType) (one : HasNoRepetition ts) where
  -- the use that a use in a closed group came from
  abbrev back : TypeUse → ListedUse
  back (local i) = by_position i
  back (outer t i) = by_id (id_in ts (record { tree = t; position = i }))

  back-id : (k : ℕ) (o : Option DefType) → slice_get ts k ≡ o → k < length ts → back (use_of_id o) ≡ by_id k
  back-id k None e h = absurd (within ts k e h)
  back-id k (Some d) e h = ap by_id (one.one_id (id_in ts d) k d (found_in ts k d e) e)

  back-resolved : (u : ListedUse) → IsKnownUse ts u → back (resolve_listed ts u) ≡ u
  back-resolved (by_position i) h = refl
  back-resolved (by_id k) h = back-id k (slice_get ts k) refl h

  each_back : (us : List ListedUse) → AllByRecursion (IsKnownUse ts) us → AllByRecursion (λ u. back (resolve_listed ts u) ≡ u) us
  each_back [] h = tt
  each_back (u ∷ us) h = (back-resolved u h.0, each_back us h.1)

  undone : (g : List (Sub ListedUse)) → AllByRecursion (λ s. All (IsKnownUse ts) (refs_sub s)) g → map (map_sub back) (map (map_sub (resolve_listed ts)) g) ≡ g
  undone [] h = refl
  undone (s ∷ ss) h = λ i. map_sub-undone (resolve_listed ts) back s (each_back (refs_sub s) (recursion_from_All (IsKnownUse ts) (refs_sub s) h.0)) i ∷ undone ss h.1 i

pub equal_trees_equal_listed_groups : EqualTreesEqualListedGroups
equal_trees_equal_listed_groups c ts g h one u v e =
    let start = start_unless c (length ts) in
    let same = (equal_trees_equal_groups start start (map (map_sub (resolve_listed ts)) g) (map (map_sub (resolve_listed ts)) h) e).1 in
    sym (undone ts one g (recursion_from_All _ g u.known)) ∙ ap (map (map_sub (back ts one))) same ∙ undone ts one h (recursion_from_All _ h v.known)

-- a type index as the list writes it stands for the type at it
written_use : (us ts : List DefType) (ids : List ℕ) → AreIdsOf us ids ts → (k : ℕ) (o : Option ℕ) → slice_get ids k ≡ o → resolve_listed us (listed_use o (k - length ids)) ≡ resolve ts k
written_use us ts ids h k (Some id) e =
    let l : k < length ts = omega (arith, slice_get_within ids k id e, h.as_many) in
    let x = found_at ts k l in
    ap use_of_id (h.each k id e ∙ x.1) ∙ sym (ap (λ o. use_of o (k - length ts)) x.1)
written_use us ts ids h k None e =
    let l : length ts ≤ k = not_below ids ts k h.as_many e in
    (λ i. local (k - h.as_many i)) ∙ sym (ap (λ o. use_of o (k - length ts)) (slice_get_past ts k l))

pub listed_group_is_written_group : ListedGroupIsWrittenGroup
listed_group_is_written_group us ts ids g h =
    let uses : (k : ℕ) → resolve_listed us (listed_from ids k) ≡ resolve ts k = λ k. written_use us ts ids h k (slice_get ids k) refl in
    let subs : map (map_sub (resolve_listed us)) (map (map_sub (listed_from ids)) g) ≡ map (map_sub (resolve ts)) g =
    map-map_by (map_sub (resolve_listed us)) (map_sub (listed_from ids)) (map_sub (λ k. resolve_listed us (listed_from ids k))) (map_sub-map (resolve_listed us) (listed_from ids)) g
    ∙ (λ i. map (map_sub (λ k. uses k i)) g) in
    λ i. close None (subs i)
