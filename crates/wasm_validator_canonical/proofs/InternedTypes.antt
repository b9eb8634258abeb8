-- What a list of types holds once a group is interned.
use Rattle.std.proofs.Common.{◌≡◌, refl, sym, ap, subst, ◌∙◌, ℕ, ◌+◌, ◌<◌, Bool, true, false, List, [], ◌∷◌, ◌++◌, map, length, slice_get, Some, None, arith, append-nil}
use Rattle.std.proofs.lemmas.Option.{slice_get_within}
use Rattle.wasm_spec.specs.Trees.{RecTree, DefType}
use Rattle.wasm_spec.specs.Closing.{positions}
use Rattle.wasm_spec.specs.TypeLaws.{HasNoRepetition}
use Rattle.wasm_spec.proofs.AcceptedSections.{length-positions}
use Rattle.wasm_readers_types.specs.declared.types.SubType.{SubType}
use Rattle.wasm_validator_type_list.specs.WasmValidatorTypeGroups.Elements.{numbers_from}
use Rattle.wasm_validator_type_list.specs.WasmValidatorTypeGroups.Groups.{first_of}
use Rattle.wasm_validator_type_list.specs.ListViews.{Listing}
use Rattle.wasm_validator_type_list.specs.DefTypes.{listed_sub, listed_group, def_types, tree_behind, StandFor}
use Rattle.wasm_validator_type_list.specs.GroupInterning.{AreOnce, Interns, InternsTypes}
use Rattle.wasm_validator_type_list.proofs.WasmValidatorTypeGroups.FlatGroups.{first_of-stays, first_of-all}
use Rattle.wasm_validator_type_list.proofs.WasmValidatorTypeGroups.Places.{get-left, get-right}
use Rattle.wasm_validator_type_list.proofs.DefTypes.{from-positions, place_in, def_types-push, length-def_types}
use Rattle.wasm_validator_canonical.specs.Groups.{held_at, held}
use Rattle.wasm_validator_canonical.proofs.TypePlaces.{StandAt, no_types_found, found, not_found}

-- positions depend on how many there are alone
pub positions-map : {X Y : Type 0} (f : X → Y) (t : RecTree) (i : ℕ) (xs : List X) → positions t i (map f xs) ≡ positions t i xs
positions-map f t i [] = refl
positions-map f t i (x ∷ xs) = ap (λ ds. record { tree = t; position = i } ∷ ds) (positions-map f t (i + 1) xs)

module _ {A : Type 0} where
  first_of_last : (c : Bool) (gs : List (List (SubType A))) (g : List (SubType A)) → first_of (gs ++ g ∷ []) (length gs) ≡ length (def_types c gs)
  first_of_last c gs g = first_of-stays gs (g ∷ []) (length gs) (omega arith) ∙ first_of-all gs ∙ sym (length-def_types c gs)

  abbrev ids_with : List (List (SubType A)) → ℕ → List ℕ → List (SubType A) → List ℕ
  ids_with hs n ids g = ids ++ numbers_from (first_of hs n) (length g)

  -- a new group, whose types come to the end
  at_end : (c : Bool) (gs : List (List (SubType A))) (g : List (SubType A)) (ids : List ℕ)
      → held_at None (def_types c gs) ids (positions (tree_behind c gs g) 0 g) ≡ (def_types c (gs ++ g ∷ []), ids_with (gs ++ g ∷ []) (length gs) ids g)
  at_end c gs g ids =
      let t = tree_behind c gs g in
      let all : def_types c gs ++ positions t 0 g ≡ def_types c (gs ++ g ∷ []) = ap (λ ds. def_types c gs ++ ds) (sym (positions-map listed_sub t 0 g)) ∙ sym (def_types-push c gs g) in
      λ i. (all i, ids ++ numbers_from (sym (first_of_last c gs g) i) (length-positions t 0 g i))

  no_types_more : (gs : List (List (SubType A))) (ids : List ℕ) (t : RecTree)
      → held_at (Some 0) (def_types true gs) ids (positions {X = SubType A} t 0 []) ≡ (def_types true (gs ++ [] ∷ []), ids_with (gs ++ [] ∷ []) (length gs) ids [])
  no_types_more gs ids t = λ i. ((sym (append-nil (def_types true gs)) ∙ sym (def_types-push true gs [])) i, ids ++ [])

  -- no place of a new recursive type stands in the list
  not_there : (gs : List (List (SubType A))) (s : SubType A) (ss : List (SubType A)) → HasNoRepetition (def_types true (gs ++ (s ∷ ss) ∷ []))
      → (j : ℕ) → slice_get (def_types true gs) j ≡ Some (place_in (tree_behind true gs (s ∷ ss)) 0) → ⊥
  not_there gs s ss one j e =
      let us = def_types true gs in
      let t = tree_behind true gs (s ∷ ss) in
      let here = positions t 0 (listed_group (s ∷ ss)) in
      let l : j < length us = slice_get_within us j (place_in t 0) e in
      let all = def_types-push true gs (s ∷ ss) in
      let at_j : slice_get (def_types true (gs ++ (s ∷ ss) ∷ [])) j ≡ Some (place_in t 0) = ap (λ ds. slice_get ds j) all ∙ get-left us here j l ∙ e in
      let z : length us ≡ length us + 0 = omega arith in
      let at_last : slice_get (def_types true (gs ++ (s ∷ ss) ∷ [])) (length us) ≡ Some (place_in t 0) = ap (λ ds. slice_get ds (length us)) all ∙ ap (slice_get (us ++ here)) z ∙ get-right us here 0 in
      let same : j ≡ length us = one.one_id j (length us) (place_in t 0) at_j at_last in
      omega (arith, l, same)

  pub new_held : (c : Bool) (gs : List (List (SubType A))) (g : List (SubType A)) (ids : List ℕ) → (c ≡ true → HasNoRepetition (def_types true (gs ++ g ∷ [])))
      → held c (def_types c gs) ids (positions (tree_behind c gs g) 0 g) ≡ (def_types c (gs ++ g ∷ []), ids_with (gs ++ g ∷ []) (length gs) ids g)
  new_held false gs g ids one = at_end false gs g ids
  new_held true gs [] ids one = ap (λ o. held_at o (def_types true gs) ids (positions {X = SubType A} (tree_behind true gs []) 0 [])) (no_types_found (def_types true gs)) ∙ no_types_more gs ids (tree_behind true gs [])
  new_held true gs (s ∷ ss) ids one =
      let t = tree_behind true gs (s ∷ ss) in
      ap (λ o. held_at o (def_types true gs) ids (positions t 0 (s ∷ ss))) (not_found (def_types true gs) (place_in t 0) (positions t 1 ss) (not_there gs s ss (one refl)))
      ∙ at_end true gs (s ∷ ss) ids

  -- a group that is there
  stand_at : (us : List DefType) (f : ℕ) (g : List (SubType A)) (t : RecTree) → StandFor us f g t → StandAt us f (positions t 0 g)
  stand_at us f g t h i d e =
      let l : i < length g = omega (arith, slice_get_within (positions t 0 g) i d e, length-positions t 0 g) in
      h i l ∙ ap Some (sym (from-positions t g i d e))

  known_held : (gs : List (List (SubType A))) (g : List (SubType A)) (n : ℕ) (ids : List ℕ) (t : RecTree) → HasNoRepetition (def_types true gs) → StandFor (def_types true gs) (first_of gs n) g t
      → held true (def_types true gs) ids (positions t 0 g) ≡ (def_types true gs, ids_with gs n ids g)
  known_held gs [] n ids t one h = ap (λ o. held_at o (def_types true gs) ids (positions {X = SubType A} t 0 [])) (no_types_found (def_types true gs))
  known_held gs (s ∷ ss) n ids t one h =
      let us = def_types true gs in
      let f = first_of gs n in
      let at = stand_at us f (s ∷ ss) t h in
      let z : f ≡ f + 0 = omega arith in
      let here : slice_get us f ≡ Some (place_in t 0) = ap (slice_get us) z ∙ at 0 (place_in t 0) refl in
      ap (λ o. held_at o us ids (positions t 0 (s ∷ ss))) (found us f (place_in t 0) (positions t 1 ss) (λ j e. one.one_id j f (place_in t 0) e here) at)
      ∙ (λ i. (us, ids ++ numbers_from f (length-positions t 0 (s ∷ ss) i)))

  known_as : (c : Bool) (gs hs : List (List (SubType A))) (g : List (SubType A)) (n : ℕ) (ids : List ℕ) → hs ≡ gs → c ≡ true
      → StandFor (def_types c hs) (first_of hs n) g (tree_behind c gs g) → (c ≡ true → HasNoRepetition (def_types true hs))
      → held c (def_types c gs) ids (positions (tree_behind c gs g) 0 g) ≡ (def_types c hs, ids_with hs n ids g)
  known_as false gs hs g n ids same e members one = absurd cc
  known_as true gs hs g n ids same e members one =
      known_held gs g n ids (tree_behind true gs g) (subst (λ xs. HasNoRepetition (def_types true xs)) same (one refl)) (subst (λ xs. StandFor (def_types true xs) (first_of xs n) g (tree_behind true gs g)) same members)
      ∙ (λ i. (def_types true (sym same i), ids_with (sym same i) n ids g))

  -- what interning does is what the definition says
  interned_as : (c : Bool) (gs hs : List (List (SubType A))) (g : List (SubType A)) (is_new : Bool) (n : ℕ) (ids : List ℕ)
      → (is_new ≡ true → (hs ≡ gs ++ g ∷ []) × (n ≡ length gs)) → (is_new ≡ false → (hs ≡ gs) × (c ≡ true))
      → StandFor (def_types c hs) (first_of hs n) g (tree_behind c gs g) → (c ≡ true → HasNoRepetition (def_types true hs))
      → held c (def_types c gs) ids (positions (tree_behind c gs g) 0 g) ≡ (def_types c hs, ids_with hs n ids g)
  interned_as c gs hs g true n ids new known members one =
      let e = new refl in
      new_held c gs g ids (λ h. subst (λ xs. HasNoRepetition (def_types true xs)) e.0 (one h)) ∙ (λ i. (def_types c (sym e.0 i), ids_with (sym e.0 i) (sym e.1 i) ids g))
  interned_as c gs hs g false n ids new known members one = known_as c gs hs g n ids (known refl).0 (known refl).1 members one

  pub interned_held : (old new : Listing A) (g : List (SubType A)) (is_new : Bool) (n : ℕ) (ids : List ℕ)
      → Interns old new g is_new n → InternsTypes old new g is_new n → (old.is_canonical ≡ true → AreOnce new.groups)
      → let c = old.is_canonical in
      held c (def_types c old.groups) ids (positions (tree_behind c old.groups g) 0 g) ≡ (def_types c new.groups, ids_with new.groups n ids g)
  interned_held old new g is_new n ids a b one =
      interned_as old.is_canonical old.groups new.groups g is_new n ids
      (λ e. (ap (λ l. l.groups) (a.added e), a.last e))
      (λ e. (ap (λ l. l.groups) (a.known e), a.mode e))
      b.members
      (λ e. (one e).types)
