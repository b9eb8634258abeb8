-- What is always true of a list of types, as groups are added.
use Rattle.std.proofs.Common.{◌≡◌, refl, sym, ap, subst, ◌∙◌, ℕ, ◌+◌, ◌-◌, ◌<◌, ◌≤◌, ◌^◌, Bool, true, false, true≢false, List, [], ◌∷◌, ◌++◌, length, slice_get, Option, Some, None, arith, length-append}
use Rattle.std.specs.Bool.{Decides}
use Rattle.std.specs.List.{All}
use Rattle.std.proofs.lemmas.List.Elements.{All-nil}
use Rattle.wasm_readers_errors.specs.WasmSpec.References.{refs_sub}
use Rattle.wasm_readers_types.specs.WasmReadersValues.Indices.{IsId}
use Rattle.wasm_readers_types.specs.SeenTypes.{sub_of}
use Rattle.std.specs.List.{slice_index_or}
use Rattle.std.specs.Option.{option_map, IfSome}
use Rattle.std.specs.declared.ops.Range.{Range}
use Rattle.wasm_readers_types.specs.WasmReadersValues.SeenValues.{index_of}
use Rattle.wasm_readers_types.specs.WasmReadersValues.Indices.{module_of}
use Rattle.wasm_readers_types.specs.WasmReadersValues.declared.indices.CoreTypeId.{CoreTypeId}
use Rattle.wasm_readers_types.specs.WasmReadersValues.declared.indices.PackedIndex.{PackedIndex}
use Rattle.wasm_readers_types.specs.WasmReadersValues.declared.indices.UnpackedIndex.{UnpackedIndex}
use Rattle.wasm_validator_type_ancestors.specs.WasmValidatorTypeGroups.Spans.{span}
use Rattle.wasm_validator_type_list.specs.Lookups.{leads_to, IsSupertypeAt}
use Rattle.wasm_validator_type_list.proofs.DefTypes.{first_of-within}
use Rattle.wasm_validator_type_list.proofs.Lookups.{supertype_listed}
use Rattle.std.proofs.lemmas.Option.{none-some, MatchOption-at_some, MatchOption-at_none, slice_get-get_or, slice_get_within}
use Rattle.wasm_readers_types.specs.WasmReadersValues.declared.indices.TheConstants.{MAX_IDS}
use Rattle.wasm_readers_types.specs.declared.types.SubType.{SubType}
use Rattle.wasm_validator_type_list.specs.declared.type_list.TypeList.TheInside.{Inside}
use Rattle.wasm_validator_type_ancestors.specs.WasmValidatorTypeGroups.Groups.{all_in, first_of, IsInGroup}
use Rattle.wasm_validator_type_list.specs.ListViews.{Listing, no_groups, types_in, committed, with_depths}
use Rattle.wasm_validator_type_list.specs.GroupOrder.{IsListable, AreListable, ReferByIds}
use Rattle.wasm_validator_type_ancestors.specs.WasmValidatorTypeGroups.Places.{IsNew, IsPlaceOf}
use Rattle.wasm_validator_type_ancestors.specs.Supers.{extended_in}
use Rattle.wasm_validator_type_list.proofs.Ancestors.{supers-push}
use Rattle.wasm_validator_type_list.specs.GroupInterning.{Interns, InternsTypes}
use Rattle.wasm_readers_errors.specs.WasmSpec.SupertypeOrder.{IsDepth}
use Rattle.wasm_validator_type_list.specs.DeclarationsById.{declares}
use Rattle.wasm_validator_type_list.specs.Depths.{depth_of, with_depth, HasDepth, AreDepths}
use Rattle.wasm_validator_type_list.specs.ListSoundness.{shown, supers_in, count_of_empty, IsSound}
use Rattle.wasm_validator_type_ancestors.proofs.WasmValidatorTypeGroups.FlatGroups.{all_in-push}
use Rattle.wasm_validator_type_list.proofs.DistinctGroups.{once-push, listable-push, types-known, types-new}
use Rattle.wasm_validator_type_list.proofs.Depths.{depths-push, depth-put}
use Rattle.wasm_validator_type_list.proofs.GroupCounts.{few_groups, few-more, few-new}

-- one is found only where equal groups are kept once
pub only_once : (b : Bool) (n : ℕ) (o : Option ℕ) → (b ≡ false → o ≡ None) → o ≡ Some n → b ≡ true
only_once true n o h e = refl
only_once false n o h e = absurd (none-some n (sym (h refl) ∙ e))

module _ {A : Type 0} where
  -- no depths
  no_depths : (gs : List (List (SubType A))) (a : Inside A) → a.depths ≡ [] → AreDepths gs a.depths
  no_depths gs a e id n f = absurd (none-some n (sym (ap (λ ds. depth_of ds id) e) ∙ f))

  -- the number of groups fits
  pub group_room : (a : Inside A) → IsSound a → length a.groups < 2 ^ 32
  group_room a h = omega (arith, few_groups a.groups, h.room, h.few)

  -- what is said of the listing, of the fields
  pub mode_of : (a : Inside A) (l : Listing A) (b : Bool) → shown a ≡ l → b ≡ l.is_canonical → a.is_canonical ≡ b
  mode_of a l b e f = ap (λ (m : Listing A). m.is_canonical) e ∙ sym f

  pub open_of : (a : Inside A) (l : Listing A) → shown a ≡ l → l.is_open ≡ true → a.is_open ≡ true
  open_of a l e f = ap (λ (m : Listing A). m.is_open) e ∙ f

  pub next_of : (a : Inside A) (l : Listing A) (g : List (SubType A)) → shown a ≡ l → IsListable (length (types_in l)) g → IsListable (length (all_in a.groups)) g
  next_of a l g e h = subst (λ (m : Listing A). IsListable (length (types_in m)) g) (sym e) h

  pub room_of : (a : Inside A) (n m : ℕ) → IsSound a → n ≡ length (all_in a.groups) → m ≤ MAX_IDS - n → length (all_in a.groups) + m ≤ MAX_IDS
  room_of a n m h e l = omega (arith, h.room, e, l)

  -- no groups
  pub sound_none : (a : Inside A) → a.groups ≡ [] → a.ancestors ≡ [] → a.depths ≡ [] → a.refers_by_ids ≡ true → IsSound a
  sound_none a e f d i = record {
    room = rw e (omega arith);
    few = rw e (omega arith);
    listable = rw e (λ k g h. absurd (none-some g h));
    once = λ _. rw e (record { groups = λ j k g h _. absurd (none-some g h); types = record { one_id = λ j k d h _. absurd (none-some d h) } });
    ancestors = f ∙ ap supers_in (sym e);
    by_ids = rw (e, i) ((λ _. All-nil (λ s. All IsId (refs_sub (sub_of s)))), (λ _. refl));
    deep = no_depths a.groups a d;
  }

  -- what is seen of no groups, of a committed list, and of other depths
  pub shown_none : (a : Inside A) (b : Bool) → a.groups ≡ [] → a.depths ≡ [] → a.is_canonical ≡ b → a.is_open ≡ true → shown a ≡ no_groups b
  shown_none a b e d c o = λ i. record { is_canonical = c i; is_open = o i; groups = e i; depths = d i }

  pub shown_closed : (a b : Inside A) (l : Listing A) → shown a ≡ l → b.groups ≡ a.groups → b.depths ≡ [] → b.is_canonical ≡ a.is_canonical → b.is_open ≡ false → shown b ≡ committed l
  shown_closed a b l v e d c o = (λ i. record { is_canonical = c i; is_open = o i; groups = e i; depths = d i }) ∙ ap committed v

  pub shown_depths : (a b : Inside A) (l : Listing A) (id n : ℕ) → shown a ≡ l → b.groups ≡ a.groups → b.is_canonical ≡ a.is_canonical → b.is_open ≡ a.is_open
      → b.depths ≡ with_depth a.depths id n → shown b ≡ with_depths l (with_depth l.depths id n)
  shown_depths a b l id n v e c o m = (λ i. record { is_canonical = c i; is_open = o i; groups = e i; depths = m i }) ∙ ap (λ (k : Listing A). with_depths k (with_depth k.depths id n)) v

  pub shown_same : (a b : Inside A) (l : Listing A) → shown a ≡ l → b.groups ≡ a.groups → b.is_canonical ≡ a.is_canonical → b.is_open ≡ a.is_open → b.depths ≡ a.depths → shown b ≡ l
  shown_same a b l v e c o m = (λ i. record { is_canonical = c i; is_open = o i; groups = e i; depths = m i }) ∙ v

  -- the same groups
  pub sound_same : (a b : Inside A) → IsSound a → b.groups ≡ a.groups → b.is_canonical ≡ a.is_canonical → b.is_open ≡ a.is_open
      → b.ancestors ≡ a.ancestors → b.depths ≡ a.depths → b.refers_by_ids ≡ a.refers_by_ids → IsSound b
  sound_same a b h e c o m s i = record {
    room = rw e h.room;
    few = rw e h.few;
    listable = rw e h.listable;
    once = λ d. rw e (h.once (sym c ∙ d));
    ancestors = m ∙ h.ancestors ∙ ap supers_in (sym e);
    by_ids = rw (e, i) h.by_ids;
    deep = rw (e, s) h.deep;
  }

  -- a committed list
  pub sound_closed : (a b : Inside A) → IsSound a → b.groups ≡ a.groups → b.is_canonical ≡ a.is_canonical → b.ancestors ≡ a.ancestors → b.depths ≡ [] → b.refers_by_ids ≡ a.refers_by_ids → IsSound b
  sound_closed a b h e c m d i = record {
    room = rw e h.room;
    few = rw e h.few;
    listable = rw e h.listable;
    once = λ d. rw e (h.once (sym c ∙ d));
    ancestors = m ∙ h.ancestors ∙ ap supers_in (sym e);
    by_ids = rw (e, i) h.by_ids;
    deep = no_depths b.groups b d;
  }

  few-push : (gs : List (List (SubType A))) (g : List (SubType A)) (c : Bool) → (c ≡ true → IsNew gs g) → (c ≡ false → 0 < length g) → count_of_empty gs ≤ 1 → count_of_empty (gs ++ g ∷ []) ≤ 1
  few-push gs g true n m h = few-new gs g h (n refl)
  few-push gs g false n m h = few-more gs g h (m refl)

  -- a group more: a new one where equal ones are kept once, and elsewhere one with members
  pub sound_push : (a b : Inside A) (k : List (SubType A)) → IsSound a → IsListable (length (all_in a.groups)) k → length (all_in a.groups) + length k ≤ MAX_IDS
      → (a.is_canonical ≡ true → IsNew a.groups k) → (a.is_canonical ≡ false → 0 < length k) → b.groups ≡ a.groups ++ k ∷ [] → b.is_canonical ≡ a.is_canonical
      → b.ancestors ≡ a.ancestors ++ extended_in (length (all_in a.groups)) k → b.depths ≡ a.depths
      → Decides b.refers_by_ids (ReferByIds (all_in a.groups ++ k)) → IsSound b
  sound_push a b k h l r n m e c x s i =
      let gs = a.groups in
      record {
        room = rw e (omega (arith, r, ap length (all_in-push gs k), length-append (all_in gs) k));
        few = rw e (few-push gs k a.is_canonical n m h.few);
        listable = rw e (listable-push gs k h.listable l);
        once = λ d. rw e (once-push gs k h.listable l (h.once (sym c ∙ d)) (n (sym c ∙ d)));
        ancestors = x ∙ ap (λ l. l ++ extended_in (length (all_in gs)) k) h.ancestors ∙ sym (supers-push gs k) ∙ ap supers_in (sym e);
        by_ids = rw (e, all_in-push gs k) i;
        deep = rw (e, s) (depths-push gs k a.depths h.listable h.deep);
      }

  -- what is seen of the references
  pub ids_seen : (a : Inside A) (l : Listing A) → shown a ≡ l → IsSound a → Decides a.refers_by_ids (ReferByIds (types_in l))
  ids_seen a l v h = subst (λ (m : Listing A). Decides a.refers_by_ids (ReferByIds (types_in m))) v h.by_ids

  -- a depth more
  pub sound_depth : (a b : Inside A) (id n : ℕ) → IsSound a → HasDepth a.groups id n → b.groups ≡ a.groups → b.is_canonical ≡ a.is_canonical → b.is_open ≡ a.is_open → b.ancestors ≡ a.ancestors
      → b.depths ≡ with_depth a.depths id n → b.refers_by_ids ≡ a.refers_by_ids → IsSound b
  sound_depth a b id n h t e c o k m i = record {
    room = rw e h.room;
    few = rw e h.few;
    listable = rw e h.listable;
    once = λ d. rw e (h.once (sym c ∙ d));
    ancestors = k ∙ h.ancestors ∙ ap supers_in (sym e);
    by_ids = rw (e, i) h.by_ids;
    deep = rw (e, m) (depth-put a.groups a.depths id n h.deep t);
  }

  -- what is kept of an id
  pub has_depth : (a : Inside A) (l : Listing A) (id n : ℕ) → shown a ≡ l → id < length (types_in l) → IsDepth (declares l.groups) id n → HasDepth a.groups id n
  has_depth a l id n v h d = subst (λ (m : Listing A). HasDepth m.groups id n) (sym v) (record { there = h; depth = d })

  pub kept_seen : (a : Inside A) (l : Listing A) (key id : ℕ) (o : Option ℕ) → shown a ≡ l → key ≡ id → o ≡ depth_of a.depths key → o ≡ depth_of l.depths id
  kept_seen a l key id o v k e = e ∙ ap (depth_of a.depths) k ∙ ap (λ (m : Listing A). depth_of m.depths id) v

  pub kept_right : (a : Inside A) (l : Listing A) (id n : ℕ) → shown a ≡ l → IsSound a → Some n ≡ depth_of l.depths id → HasDepth l.groups id n
  kept_right a l id n v h e = subst (λ (m : Listing A). HasDepth m.groups id n) v (h.deep id n (ap (λ (m : Listing A). depth_of m.depths id) v ∙ sym e))

  pub kept_right_if : (a : Inside A) (l : Listing A) (id : ℕ) (o : Option ℕ) → shown a ≡ l → IsSound a → o ≡ depth_of l.depths id → IfSome o (HasDepth l.groups id)
  kept_right_if a l id None v h e = tt
  kept_right_if a l id (Some n) v h e = kept_right a l id n v h e

  -- the group that is found
  pub place_found : (gs : List (List (SubType A))) (g h : List (SubType A)) (n : ℕ) (o : Option ℕ) → h ≡ g → o ≡ Some n → IsPlaceOf o gs h → slice_get gs n ≡ Some g
  place_found gs g h n o same e p = MatchOption-at_some (IsNew gs h) (λ m. slice_get gs m ≡ Some h) n e p ∙ ap Some same

  pub place_missed : (gs : List (List (SubType A))) (g h : List (SubType A)) (o : Option ℕ) → h ≡ g → o ≡ None → IsPlaceOf o gs h → IsNew gs g
  place_missed gs g h o same e p = subst (IsNew gs) same (MatchOption-at_none (IsNew gs h) (λ m. slice_get gs m ≡ Some h) e p)

  -- what is said of a group that is found, and of one that is added
  pub interned_found : (a : Inside A) (l : Listing A) (g : List (SubType A)) (n : ℕ) → shown a ≡ l → IsSound a → a.is_canonical ≡ true → slice_get a.groups n ≡ Some g → Interns l l g false n × InternsTypes l l g false n
  interned_found a l g n e h c f =
      let P : Listing A → Type 0 = λ l. Interns l l g false n × InternsTypes l l g false n in
      subst P e (
        record { mode = λ _. c; known = λ _. refl; there = λ _. f; added = λ w. absurd (true≢false (sym w)); last = λ w. absurd (true≢false (sym w)); absent = λ w. absurd (true≢false (sym w)) },
        types-known (shown a) g n h.listable c f,
      )

  pub interned_new : (a b : Inside A) (l : Listing A) (g : List (SubType A)) → shown a ≡ l → IsSound a → IsListable (length (types_in l)) g
      → b.groups ≡ a.groups ++ g ∷ [] → b.is_canonical ≡ a.is_canonical → b.is_open ≡ a.is_open → (a.is_canonical ≡ true → IsNew a.groups g) → b.depths ≡ a.depths
      → Interns l (shown b) g true (length a.groups) × InternsTypes l (shown b) g true (length a.groups)
  interned_new a b l g e h k f c o n s =
      let P : Listing A → Type 0 = λ l. IsListable (length (types_in l)) g → Interns l (shown b) g true (length a.groups) × InternsTypes l (shown b) g true (length a.groups) in
      subst P e
      (λ next. (
        record {
          mode = λ w. absurd (true≢false w);
          known = λ w. absurd (true≢false w);
          there = λ w. absurd (true≢false w);
          added = λ _ i. record { is_canonical = c i; is_open = o i; groups = f i; depths = s i };
          last = λ _. refl;
          absent = λ _ d. n d;
        },
        types-new (shown a) (shown b) g f h.listable next (λ d. ((h.once d).types, n d)),
      ))
      k

  -- what is interned is among the groups
  pub interned_within : (old new : Listing A) (a : Inside A) (g : List (SubType A)) (w : Bool) (n i : ℕ) → shown a ≡ new → Interns old new g w n → i ≡ n → i < length a.groups
  interned_within old new a g false n i v h e =
      let there : n < length old.groups = slice_get_within old.groups n g (h.there refl) in
      omega (arith, e, there, ap (λ (l : Listing A). length l.groups) (v ∙ h.known refl))
  interned_within old new a g true n i v h e =
      omega (arith, e, h.last refl, ap (λ (l : Listing A). length l.groups) (v ∙ h.added refl), length-append old.groups (g ∷ []))

  -- what is said of all groups, and of one that may be added
  pub listable_in : (a : Inside A) (l : Listing A) → shown a ≡ l → IsSound a → AreListable l.groups
  listable_in a l v h = subst (λ (m : Listing A). AreListable m.groups) v h.listable

  pub listable_seen : (a : Inside A) (l : Listing A) (n : ℕ) (xs ys : List (SubType A)) (r : Bool) → shown a ≡ l → n ≡ length (all_in a.groups) → xs ≡ ys → Decides r (IsListable n xs) → Decides r (IsListable (length (types_in l)) ys)
  listable_seen a l n xs ys r v e f d =
      subst (λ (m : Listing A). Decides r (IsListable (length (types_in m)) ys)) v (subst (λ k. Decides r (IsListable k ys)) e (subst (λ zs. Decides r (IsListable n zs)) f d))

  -- the ids of a group fit
  pub span_room : (a : Inside A) (k : ℕ) (ids : Range CoreTypeId) → IsSound a → ids ≡ span (first_of a.groups k) (first_of a.groups (k + 1)) → (ids.start.index ≤ MAX_IDS) × (ids.end.index ≤ MAX_IDS)
  span_room a k ids h e =
      let from : ids.start.index ≡ first_of a.groups k = ap (λ (r : Range CoreTypeId). r.start.index) e in
      let end : ids.end.index ≡ first_of a.groups (k + 1) = ap (λ (r : Range CoreTypeId). r.end.index) e in
      (omega (arith, from, first_of-within a.groups k, h.room), omega (arith, end, first_of-within a.groups (k + 1), h.room))

  -- the supertype of a type that is there
  type_there : (gs : List (List (SubType A))) (k place : ℕ) (ty : SubType A) → IsInGroup gs k place → ty ≡ slice_index_or (all_in gs) place ty → slice_get (all_in gs) place ≡ Some ty
  type_there gs k place ty h e = let l : place < length (all_in gs) = omega (arith, h.below, first_of-within gs (k + 1)) in slice_get-get_or (all_in gs) place ty l ∙ ap Some (sym e)

  pub supertype_no_module : (a : Inside A) (k place : ℕ) (ty : SubType A) (supers : List PackedIndex) (p : PackedIndex) (u : UnpackedIndex) → IsSound a → IsInGroup a.groups k place
      → ty ≡ slice_index_or (all_in a.groups) place ty → supers ≡ ty.supertype_idxs → Some p ≡ slice_get supers 0 → u ≡ (index_of p) → module_of u ≡ None
  supertype_no_module a k place ty supers p u h in_group e f g u_is =
      ap module_of u_is ∙ supertype_listed a.groups k place ty p h.listable in_group (type_there a.groups k place ty in_group e) (ap (λ l. slice_get l 0) (sym f) ∙ sym g)

  pub supertype_some : (a : Inside A) (l : Listing A) (k place : ℕ) (ty : SubType A) (supers : List PackedIndex) (p : PackedIndex) (u : UnpackedIndex) (ids : Range CoreTypeId) (r : CoreTypeId) → shown a ≡ l → IsInGroup a.groups k place
      → ty ≡ slice_index_or (all_in a.groups) place ty → supers ≡ ty.supertype_idxs → Some p ≡ slice_get supers 0 → u ≡ (index_of p)
      → ids ≡ span (first_of a.groups k) (first_of a.groups (k + 1)) → r.index ≡ leads_to ids.start.index u → IsSupertypeAt l.groups place (Some r)
  supertype_some a l k place ty supers p u ids r view in_group e f g u_is ids_is r_is =
      subst (λ (m : Listing A). IsSupertypeAt m.groups place (Some r)) view (record {
        group = k;
        ty = ty;
        in_group = in_group;
        there = type_there a.groups k place ty in_group e;
        leads = ap Some (r_is ∙ ap (λ (q : Range CoreTypeId). leads_to q.start.index u) ids_is ∙ ap (leads_to (first_of a.groups k)) u_is) ∙ ap (option_map (λ (q : PackedIndex). leads_to (first_of a.groups k) (index_of q))) (g ∙ ap (λ m. slice_get m 0) f);
      })

  pub supertype_none : (a : Inside A) (l : Listing A) (k place : ℕ) (ty : SubType A) (supers : List PackedIndex) → shown a ≡ l → IsInGroup a.groups k place
      → ty ≡ slice_index_or (all_in a.groups) place ty → supers ≡ ty.supertype_idxs → None ≡ slice_get supers 0 → IsSupertypeAt l.groups place None
  supertype_none a l k place ty supers view in_group e f g =
      subst (λ (m : Listing A). IsSupertypeAt m.groups place None) view (record {
        group = k;
        ty = ty;
        in_group = in_group;
        there = type_there a.groups k place ty in_group e;
        leads = ap (option_map (λ (q : PackedIndex). leads_to (first_of a.groups k) (index_of q))) (g ∙ ap (λ m. slice_get m 0) f);
      })
