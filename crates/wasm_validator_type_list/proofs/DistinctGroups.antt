-- A list in which equal groups are kept once, and one more group.
use Rattle.std.proofs.Common.{◌≡◌, refl, sym, ap, subst, ◌∙◌, ℕ, ◌+◌, ◌<◌, ◌≤◌, Bool, true, false, true≢false, List, [], ◌∷◌, ◌++◌, length, slice_get, take, drop, Some, arith, length-append}
use Rattle.std.proofs.lemmas.List.{length-map, append_assoc}
use Rattle.std.proofs.lemmas.Option.{slice_get_within}
use Rattle.wasm_readers_errors.specs.WasmSpec.Trees.{DefType}
use Rattle.wasm_readers_errors.specs.WasmSpec.Closing.{positions}
use Rattle.wasm_readers_errors.specs.WasmSpec.TypeLaws.{HasNoRepetition}
use Rattle.wasm_readers_errors.proofs.WasmSpec.ListedGroups.{equal_trees_equal_listed_groups}
use Rattle.wasm_readers_types.specs.declared.types.SubType.{SubType}
use Rattle.wasm_validator_type_ancestors.specs.WasmValidatorTypeGroups.Groups.{all_in, first_of}
use Rattle.wasm_validator_type_list.specs.GroupOrder.{IsListable, AreListable}
use Rattle.wasm_validator_type_list.specs.DefTypes.{listed_sub, listed_group, def_types, tree_behind, IsTreeOfOne, StandFor}
use Rattle.wasm_validator_type_list.specs.ListViews.{Listing}
use Rattle.wasm_validator_type_ancestors.specs.WasmValidatorTypeGroups.Places.{IsNew}
use Rattle.wasm_validator_type_list.specs.GroupInterning.{AreOnce, InternsTypes}
use Rattle.wasm_validator_type_ancestors.proofs.WasmValidatorTypeGroups.FlatGroups.{all_in-push, first_of-stays, first_of-all}
use Rattle.wasm_validator_type_ancestors.proofs.WasmValidatorTypeGroups.Places.{get-left, get-right, get-push, get-append, split-at}
use Rattle.wasm_validator_type_list.proofs.ListedSubTypes.{mentions_known, listed_apart}
use Rattle.wasm_validator_type_list.proofs.DefTypes.{place_in, get-positions, from-positions, def_types-push, length-def_types, front, first_of-within, tree_at, of_one}

module _ {A : Type 0} where
  -- groups that are one recursive type behind all are the same
  same_tree : (gs : List (List (SubType A))) → HasNoRepetition (def_types true gs) → (n m : ℕ) (g h : List (SubType A))
      → n ≤ length (all_in gs) → m ≤ length (all_in gs) → IsListable n g → IsListable m h
      → tree_behind true gs g ≡ tree_behind true gs h → g ≡ h
  same_tree gs one n m g h l k u v e =
      let ts = def_types true gs in
      listed_apart n m g h u v
      (equal_trees_equal_listed_groups true ts (listed_group g) (listed_group h) one
      (mentions_known ts n g (omega (arith, l, length-def_types true gs)) u)
      (mentions_known ts m h (omega (arith, k, length-def_types true gs)) v) e)

  module _ (gs : List (List (SubType A))) (g : List (SubType A)) (listable : AreListable gs) (next : IsListable (length (all_in gs)) g) where
    -- no id stands for a place of a new group
    no_id : HasNoRepetition (def_types true gs) → IsNew gs g → (k : ℕ) (d : DefType) → slice_get (def_types true gs) k ≡ Some d → d.tree ≡ tree_behind true gs g → ⊥
    no_id one new k d e f =
        let o = of_one gs listable k d e in
        let same : o.members ≡ g = same_tree gs one (first_of gs o.place) (length (all_in gs)) o.members g (first_of-within gs o.place) (omega arith) (listable o.place o.members o.there) next (o.tree ∙ f) in
        new o.place (o.there ∙ ap Some same)

    pub new_tree : HasNoRepetition (def_types true gs) → IsNew gs g → IsTreeOfOne true gs (tree_behind true gs g) → ⊥
    new_tree one new o =
        let l = listable o.place o.members o.there in
        let same : o.members ≡ g = same_tree gs one (first_of gs o.place) (length (all_in gs)) o.members g (first_of-within gs o.place) (omega arith) l next (sym (tree_at gs o.place o.members l) ∙ o.tree) in
        new o.place (o.there ∙ ap Some same)

    one_id_more : HasNoRepetition (def_types true gs) → IsNew gs g
        → (j k : ℕ) (d : DefType) → slice_get (def_types true gs ++ positions (tree_behind true gs g) 0 (listed_group g)) j ≡ Some d
        → slice_get (def_types true gs ++ positions (tree_behind true gs g) 0 (listed_group g)) k ≡ Some d → j ≡ k
    one_id_more one new j k d e f =
        let ts = def_types true gs in
        let t = tree_behind true gs g in
        let here = positions t 0 (listed_group g) in
        let placed : (i : ℕ) → slice_get here i ≡ Some d → d ≡ place_in t i = λ i a. from-positions t (listed_group g) i d a in
        get-append {P = j ≡ k} ts here j d e
        (λ a. get-append {P = j ≡ k} ts here k d f
        (λ b. one.one_id j k d a b)
        (λ i b c. absurd (no_id one new j d a (ap (λ (p : DefType). p.tree) (placed i c)))))
        (λ i a b. get-append {P = j ≡ k} ts here k d f
        (λ c. absurd (no_id one new k d c (ap (λ (p : DefType). p.tree) (placed i b))))
        (λ m c p. let same : i ≡ m = ap (λ (q : DefType). q.position) (sym (placed i b) ∙ placed m p) in omega (arith, a, c, same)))

    pub once-push : AreOnce gs → IsNew gs g → AreOnce (gs ++ g ∷ [])
    once-push h new = record {
      groups = λ j k f a b. get-push {P = j ≡ k} gs g j f a
          (λ p. get-push {P = j ≡ k} gs g k f b (λ q. h.groups j k f p q) (λ _ q. absurd (new j (p ∙ ap Some (sym q)))))
          (λ n p. get-push {P = j ≡ k} gs g k f b (λ q. absurd (new k (q ∙ ap Some (sym p)))) (λ m q. omega (arith, n, m)));
      types = rw (def_types-push true gs g) (record { one_id = one_id_more h.types new });
    }

    pub listable-push : AreListable (gs ++ g ∷ [])
    listable-push k f e = get-push {P = IsListable (first_of (gs ++ g ∷ []) k) f} gs g k f e
        (λ a. let l : k ≤ length gs = omega (arith, slice_get_within gs k f a) in subst (λ m. IsListable m f) (sym (first_of-stays gs (g ∷ []) k l)) (listable k f a))
        (λ a b.
        let n : length (all_in gs) ≡ first_of (gs ++ g ∷ []) k = sym (ap (first_of (gs ++ g ∷ [])) a ∙ first_of-stays gs (g ∷ []) (length gs) (omega arith) ∙ first_of-all gs) in
        subst (λ m. IsListable m f) n (subst (IsListable (length (all_in gs))) b next))

  -- the ids of a group at the end
  pub members_of_new : (c : Bool) (gs : List (List (SubType A))) (g : List (SubType A)) → StandFor (def_types c (gs ++ g ∷ [])) (first_of (gs ++ g ∷ []) (length gs)) g (tree_behind c gs g)
  members_of_new c gs g i l =
      let t = tree_behind c gs g in
      let n : first_of (gs ++ g ∷ []) (length gs) + i ≡ length (def_types c gs) + i = omega (arith, first_of-stays gs (g ∷ []) (length gs) (omega arith), first_of-all gs, length-def_types c gs) in
      let m : i < length (listed_group g) = omega (arith, l, length-map g listed_sub) in
      let z : 0 + i ≡ i = omega arith in
      ap (slice_get (def_types c (gs ++ g ∷ []))) n ∙ ap (λ ts. slice_get ts (length (def_types c gs) + i)) (def_types-push c gs g) ∙ get-right (def_types c gs) (positions t 0 (listed_group g)) i ∙ get-positions t 0 (listed_group g) i m ∙ (λ j. Some (place_in t (z j)))

  pub earlier_stay : (c : Bool) (gs : List (List (SubType A))) (g : List (SubType A)) (id : ℕ) → id < length (all_in gs) → slice_get (def_types c (gs ++ g ∷ [])) id ≡ slice_get (def_types c gs) id
  earlier_stay c gs g id l =
      ap (λ ts. slice_get ts id) (def_types-push c gs g) ∙ get-left (def_types c gs) (positions (tree_behind c gs g) 0 (listed_group g)) id (omega (arith, l, length-def_types c gs))

  -- the ids of a group that is there
  pub members_of_known : (gs : List (List (SubType A))) (n : ℕ) (g : List (SubType A)) → slice_get gs n ≡ Some g → IsListable (first_of gs n) g → StandFor (def_types true gs) (first_of gs n) g (tree_behind true gs g)
  members_of_known gs n g e h i l =
      let a = take n gs in
      let b = drop (n + 1) gs in
      let is : (a ++ g ∷ []) ++ b ≡ gs = append_assoc a (g ∷ []) b ∙ split-at gs n g e in
      let f = front true (a ++ g ∷ []) b in
      let t = tree_behind true a g in
      let here = positions t 0 (listed_group g) in
      let k = length (def_types true a) + i in
      let m : i < length (listed_group g) = omega (arith, l, length-map g listed_sub) in
      let z : 0 + i ≡ i = omega arith in
      let start : first_of gs n + i ≡ k = omega (arith, length-def_types true a) in
      let within : k < length (def_types true (a ++ g ∷ [])) = omega (arith, l, length-def_types true a, ap length (def_types-push true a g), length-append (def_types true a) here, slice_get_within here i (place_in t i) (get-positions t 0 (listed_group g) i m ∙ (λ j. Some (place_in t (z j))))) in
      ap (slice_get (def_types true gs)) start
      ∙ ap (λ hs. slice_get (def_types true hs) k) (sym is)
      ∙ ap (λ ts. slice_get ts k) f.1
      ∙ get-left (def_types true (a ++ g ∷ [])) f.0 k within
      ∙ ap (λ ts. slice_get ts k) (def_types-push true a g)
      ∙ get-right (def_types true a) here i
      ∙ get-positions t 0 (listed_group g) i m
      ∙ (λ j. Some (place_in (tree_at gs n g h j) (z j)))

  known_tree : (gs : List (List (SubType A))) (n : ℕ) (g : List (SubType A)) → slice_get gs n ≡ Some g → IsListable (first_of gs n) g → IsTreeOfOne true gs (tree_behind true gs g)
  known_tree gs n g e h = record { place = n; members = g; there = e; tree = tree_at gs n g h }

  -- what is said of the types, where the group is known
  pub types-known : (l : Listing A) (g : List (SubType A)) (n : ℕ) → AreListable l.groups → l.is_canonical ≡ true → slice_get l.groups n ≡ Some g → InternsTypes l l g false n
  types-known l g n h c e =
      let gs = l.groups in
      let here = h n g e in
      record {
        known = λ _. (λ _. known_tree gs n g e here, λ _. refl);
        members = subst (λ b. StandFor (def_types b gs) (first_of gs n) g (tree_behind b gs g)) (sym c) (members_of_known gs n g e here);
        kept = omega arith;
        earlier = λ id k. refl;
      }

  -- and where it is new
  pub types-new :
      (l m : Listing A) (g : List (SubType A)) → m.groups ≡ l.groups ++ g ∷ []
      → AreListable l.groups → IsListable (length (all_in l.groups)) g
      → (l.is_canonical ≡ true → HasNoRepetition (def_types true l.groups) × IsNew l.groups g)
      → InternsTypes l m g true (length l.groups)
  types-new l m g e h next once =
      let gs = l.groups in
      let c = l.is_canonical in
      record {
        known = λ d. (λ f. absurd (true≢false f), λ o. absurd (new_tree gs g h next (once d).0 (once d).1 o));
        members = rw e (members_of_new c gs g);
        kept = rw e (omega (arith, ap length (all_in-push gs g), length-append (all_in gs) g));
        earlier = λ id k. rw e (earlier_stay c gs g id k);
      }
