-- Types of a list with ids in the place of positions in their groups.
use Rattle.std.proofs.Common.{◌≡◌, refl, sym, ap, subst, ◌∙◌, ℕ, zero, suc, ◌+◌, ◌-◌, ◌<◌, ◌≤◌, List, [], ◌∷◌, ◌++◌, map, length, take, slice_get, Some, option_map, All, arith, append_assoc, length-append, take_all, Result, Ok, Err, IfOk}
use Rattle.std.specs.List.{flat_map, slice_index_or}
use Rattle.std.specs.declared.ops.Range.{Range}
use Rattle.std.proofs.lemmas.List.{map-append, length-map}
use Rattle.std.proofs.lemmas.List.Elements.{All-head, All-tail, All-cons, All-nil, All-weaker}
use Rattle.std.proofs.lemmas.Option.{none-some, same_Some, slice_get_read, slice_get_within, get_or_from_slice_get}
use Rattle.wasm_spec.specs.Syntax.{map_sub}
use Rattle.wasm_spec.specs.References.{refs_option, refs_val, refs_field, refs_comp, refs_sub}
use Rattle.wasm_spec.proofs.SyntaxMaps.{map_sub-map}
use Rattle.wasm_readers_types.specs.WasmReadersValues.SeenValues.{index_of, val_of, field_of}
use Rattle.wasm_readers_types.specs.SeenTypes.{func_of, comp_of, sub_of}
use Rattle.wasm_readers_types.specs.WasmReadersValues.declared.indices.TheConstants.{MAX_IDS}
use Rattle.wasm_readers_types.specs.WasmReadersValues.declared.indices.CoreTypeId.{CoreTypeId}
use Rattle.wasm_readers_types.specs.WasmReadersValues.declared.indices.PackedIndex.{PackedIndex}
use Rattle.wasm_readers_types.specs.WasmReadersValues.declared.indices.UnpackedIndex.{UnpackedIndex}
use Rattle.wasm_readers_types.specs.WasmReadersValues.declared.indices.UnpackedIndex.TheVariants.{Module, RecGroup, Id}
use Rattle.wasm_readers_types.specs.WasmReadersValues.declared.values.ValType.{ValType}
use Rattle.wasm_readers_types.specs.WasmReadersValues.declared.values.FieldType.{FieldType}
use Rattle.wasm_readers_types.specs.declared.types.FuncType.{FuncType}
use Rattle.wasm_readers_types.specs.declared.types.StructType.{StructType}
use Rattle.wasm_readers_types.specs.declared.types.CompositeInnerType.{CompositeInnerType}
use Rattle.wasm_readers_types.specs.declared.types.CompositeInnerType.TheVariants.{Struct}
use Rattle.wasm_readers_types.specs.declared.types.SubType.{SubType}
use Rattle.wasm_validator_type_list.specs.WasmValidatorTypeGroups.Groups.{all_in, first_of, IsInGroup}
use Rattle.wasm_validator_type_list.specs.GroupOrder.{IsKnown, AreListable}
use Rattle.wasm_validator_type_list.specs.Lookups.{leads_to, group_span}
use Rattle.wasm_validator_type_list.specs.DeclarationsById.{sub_by_ids, subs_by_ids, declares}
use Rattle.wasm_validator_type_list.proofs.DefTypes.{first_of-within}
use Rattle.wasm_validator_type_list.proofs.Lookups.{first_of-next, member_at}
use Rattle.wasm_validator_type_list.proofs.IdDeclarations.{declares-at}
use Rattle.wasm_validator_type_list.proofs.GroupMatching.{all-left, all-right, all-flat}
use Rattle.wasm_validator_type_list.proofs.IdsAndTypes.{length-subs}
use Rattle.wasm_validator_core_resources.specs.IndexContexts.{id_of}
use Rattle.wasm_validator_core_resources.specs.ModuleContexts.{AreByIds}
use Rattle.wasm_validator_core_resources.specs.ById.{as_id, Reaches, AreFirstByIds, NoneAreFirst, AllAreFirst, FirstStayFirst}

-- what holds of all that items are seen as
all-mapped : {X Y : Type 0} (P : Y → Type 0) (f : X → Y) (xs : List X) → All P (map f xs) → All (λ x. P (f x)) xs
all-mapped P f [] h = All-nil (λ x. P (f x))
all-mapped P f (x ∷ xs) h = All-cons (λ y. P (f y)) x xs (All-head P (f x) (map f xs) h) (all-mapped P f xs (All-tail P (f x) (map f xs) h))

-- the parts of a type mention what the type does
module _ {A : Type 0} (start : ℕ) where
  pub params_reach : (f : FuncType A) (vs : List ValType) → vs ≡ f.params → All (Reaches start) (refs_comp (func_of f)) → All (λ v. All (Reaches start) (refs_val (val_of v))) vs
  params_reach f vs e h = rw e (all-flat (Reaches start) refs_val val_of f.params (all-left (Reaches start) (flat_map refs_val (map val_of f.params)) (flat_map refs_val (map val_of f.results)) h))

  pub results_reach : (f : FuncType A) (vs : List ValType) → vs ≡ f.results → All (Reaches start) (refs_comp (func_of f)) → All (λ v. All (Reaches start) (refs_val (val_of v))) vs
  results_reach f vs e h = rw e (all-flat (Reaches start) refs_val val_of f.results (all-right (Reaches start) (flat_map refs_val (map val_of f.params)) (flat_map refs_val (map val_of f.results)) h))

  pub fields_reach : (c : CompositeInnerType A) (s : StructType A) (xs : List FieldType) → c ≡ Struct s → xs ≡ s.fields → All (Reaches start) (refs_comp (comp_of c)) → All (λ x. All (Reaches start) (refs_field (field_of x))) xs
  fields_reach c s xs e f h = rw f (all-flat (Reaches start) refs_field field_of s.fields (subst (λ x. All (Reaches start) (refs_comp (comp_of x))) e h))

  module _ (s : SubType A) (h : All (Reaches start) (refs_sub (sub_of s))) where
    pub supers_reach : (ps : List PackedIndex) → ps ≡ s.supertype_idxs → All (λ p. Reaches start (index_of p)) ps
    supers_reach ps e = rw e (all-mapped (Reaches start) index_of s.supertype_idxs (all-left (Reaches start) (map index_of s.supertype_idxs) (refs_option (sub_of s).describes ++ (refs_option (sub_of s).descriptor ++ refs_comp (sub_of s).comp)) h))

    others : All (Reaches start) (refs_option (sub_of s).describes ++ (refs_option (sub_of s).descriptor ++ refs_comp (sub_of s).comp))
    others = all-right (Reaches start) (map index_of s.supertype_idxs) (refs_option (sub_of s).describes ++ (refs_option (sub_of s).descriptor ++ refs_comp (sub_of s).comp)) h

    pub describes_reaches : All (Reaches start) (refs_option (option_map index_of s.composite_type.describes_idx))
    describes_reaches = all-left (Reaches start) (refs_option (sub_of s).describes) (refs_option (sub_of s).descriptor ++ refs_comp (sub_of s).comp) others

    last : All (Reaches start) (refs_option (sub_of s).descriptor ++ refs_comp (sub_of s).comp)
    last = all-right (Reaches start) (refs_option (sub_of s).describes) (refs_option (sub_of s).descriptor ++ refs_comp (sub_of s).comp) others

    pub descriptor_reaches : All (Reaches start) (refs_option (option_map index_of s.composite_type.descriptor_idx))
    descriptor_reaches = all-left (Reaches start) (refs_option (sub_of s).descriptor) (refs_comp (sub_of s).comp) last

    pub composite_reaches : All (Reaches start) (refs_comp (comp_of s.composite_type.inner))
    composite_reaches = all-right (Reaches start) (refs_option (sub_of s).descriptor) (refs_comp (sub_of s).comp) last

known_reaches : (start n : ℕ) (r : UnpackedIndex) → start + n ≤ MAX_IDS → IsKnown start n r → Reaches start r
known_reaches start n (Module i) l h = absurd h
known_reaches start n (RecGroup i) l h = omega (arith, l, h)
known_reaches start n (Id id) l h = omega (arith, l, h)

-- the first of a list, seen and renamed
take_one_more : {X Y : Type 0} (f : X → Y) (xs : List X) (n : ℕ) (y : Y) → option_map f (slice_get xs n) ≡ Some y → map f (take (suc n) xs) ≡ map f (take n xs) ++ y ∷ []
take_one_more f [] n y e = absurd (none-some y e)
take_one_more f (x ∷ xs) zero y e = ap (λ z. z ∷ []) (same_Some (f x) y e)
take_one_more f (x ∷ xs) (suc n) y e = ap (λ l. f x ∷ l) (take_one_more f xs n y e)

take_first : {X : Type 0} (xs ys : List X) (n : ℕ) → n ≤ length xs → take n (xs ++ ys) ≡ take n xs
take_first xs ys zero l = refl
take_first [] ys (suc n) l = absurd (omega (arith, l))
take_first (x ∷ xs) ys (suc n) l = ap (λ zs. x ∷ zs) (take_first xs ys n (omega (arith, l)))

taken_within : {X : Type 0} (n : ℕ) (xs : List X) → length (take n xs) ≤ length xs
taken_within zero xs = omega arith
taken_within (suc n) [] = omega arith
taken_within (suc n) (x ∷ xs) = let l = taken_within n xs in omega (arith, l)

module _ {A : Type 0} where
  -- the references of a type of a list lead to ids that can be packed
  pub listed_reaches : (gs : List (List (SubType A))) (k place : ℕ) (ty : SubType A) → AreListable gs → length (all_in gs) ≤ MAX_IDS → IsInGroup gs k place → slice_get (all_in gs) place ≡ Some ty
      → All (Reaches (first_of gs k)) (refs_sub (sub_of ty))
  listed_reaches gs k place ty h room in_group e =
      let m = member_at gs k place ty in_group e in
      let i = place - first_of gs k in
      let n = length m.members in
      let l : first_of gs k + n ≤ MAX_IDS = omega (arith, room, first_of-within gs (k + 1), first_of-next gs k m.members m.group) in
      let known : All (IsKnown (first_of gs k) n) (refs_sub (sub_of ty)) =
      subst (λ (t : SubType A). All (IsKnown (first_of gs k) n) (refs_sub (sub_of t))) (get_or_from_slice_get m.members i ty ty m.position)
      ((h k m.members m.group).known i ty (slice_get_within m.members i ty m.position)) in
      All-weaker (IsKnown (first_of gs k) n) (Reaches (first_of gs k)) (λ r. known_reaches (first_of gs k) n r l) (refs_sub (sub_of ty)) known

  -- a type with its references as ids is what its id declares
  pub listed_by_ids : (gs : List (List (SubType A))) (k place : ℕ) (ty s : SubType A) → IsInGroup gs k place → slice_get (all_in gs) place ≡ Some ty → sub_of s ≡ map_sub (as_id (first_of gs k)) (sub_of ty)
      → option_map (map_sub id_of) (declares gs place) ≡ Some (sub_of s)
  listed_by_ids gs k place ty s h e f =
      ap (option_map (map_sub id_of)) (declares-at gs k place ty h e) ∙ ap Some (map_sub-map id_of (leads_to (first_of gs k)) (sub_of ty) ∙ sym f)

  -- the same of a type that is read, in a group whose range of ids is read
  module _ (gs : List (List (SubType A))) (k at start : ℕ) (ids : Range CoreTypeId) (ty : SubType A) (in_group : IsInGroup gs k at) (there : at < length (all_in gs)) (span : ids ≡ group_span gs k) (first : start ≡ ids.start.index) (here : ty ≡ slice_index_or (all_in gs) at ty) where
    from : start ≡ first_of gs k
    from = first ∙ ap (λ (i : Range CoreTypeId). i.start.index) span

    read : slice_get (all_in gs) at ≡ Some ty
    read = slice_get_read (all_in gs) (length (all_in gs)) at ty refl there here

    pub read_reaches : AreListable gs → length (all_in gs) ≤ MAX_IDS → All (Reaches start) (refs_sub (sub_of ty))
    read_reaches h room = subst (λ n. All (Reaches n) (refs_sub (sub_of ty))) (sym from) (listed_reaches gs k at ty h room in_group read)

    pub read_by_ids : {E : Type 0} (place : ℕ) → at ≡ place → (r : Result (SubType A) E) → IfOk r (λ s. sub_of s ≡ map_sub (as_id start) (sub_of ty))
        → IfOk r (λ s. option_map (map_sub id_of) (declares gs place) ≡ Some (sub_of s))
    read_by_ids place n (Ok s) e = ap (λ p. option_map (map_sub id_of) (declares gs p)) (sym n) ∙ listed_by_ids gs k at ty s in_group read (e ∙ ap (λ m. map_sub (as_id m) (sub_of ty)) from)
    read_by_ids place n (Err e) h = h

  -- no type, one more, and all
  pub none_are_first : NoneAreFirst A
  none_are_first gs = refl

  pub one_more_is_first : (gs : List (List (SubType A))) (ts more : List (SubType A)) (s : SubType A) (place : ℕ) → more ≡ ts ++ s ∷ [] → place ≡ length ts
      → option_map (map_sub id_of) (declares gs place) ≡ Some (sub_of s) → AreFirstByIds gs ts → AreFirstByIds gs more
  unfolding declares
  one_more_is_first gs ts more s place p n e h =
      let ds = subs_by_ids 0 gs in
      let f = map_sub id_of in
      let there : option_map f (slice_get ds (length ts)) ≡ Some (sub_of s) = ap (λ k. option_map f (slice_get ds k)) (sym n) ∙ e in
      let count : suc (length ts) ≡ length more = omega (arith, ap length p, length-append ts (s ∷ [])) in
      ap (map sub_of) p ∙ map-append sub_of ts (s ∷ []) ∙ ap (λ l. l ++ sub_of s ∷ []) h ∙ sym (take_one_more f ds (length ts) (sub_of s) there) ∙ ap (λ k. map f (take k ds)) count

  pub all_are_by_ids : (gs : List (List (SubType A))) (ts : List (SubType A)) → length (all_in gs) ≤ length ts → AreFirstByIds gs ts → AreByIds gs ts
  all_are_by_ids gs ts l h = h ∙ ap (map (map_sub id_of)) (take_all (length ts) (subs_by_ids 0 gs) (omega (arith, l, length-subs gs 0)))

  pub one_longer : (ts more : List (SubType A)) (s : SubType A) → more ≡ ts ++ s ∷ [] → length more ≡ length ts + 1
  one_longer ts more s e = ap length e ∙ length-append ts (s ∷ [])

  pub kept_with_one_more : (old ts more : List (SubType A)) (s : SubType A) → more ≡ ts ++ s ∷ [] → take (length old) ts ≡ old → take (length old) more ≡ old
  kept_with_one_more old ts more s e h =
      let l : length old ≤ length ts = omega (arith, ap length h, taken_within (length old) ts) in
      ap (take (length old)) e ∙ take_first ts (s ∷ []) (length old) l ∙ h

  pub all_are_first : AllAreFirst A
  all_are_first gs ts h =
      let ds = subs_by_ids 0 gs in
      let f = map_sub id_of in
      let n : length ds ≤ length ts = omega (arith, ap length h, length-map ts sub_of, length-map ds f) in
      h ∙ sym (ap (map f) (take_all (length ts) ds n))

  -- a list that grows keeps its first types
  subs-more : (gs hs : List (List (SubType A))) (start : ℕ) → subs_by_ids start (gs ++ hs) ≡ subs_by_ids start gs ++ subs_by_ids (start + length (all_in gs)) hs
  subs-more [] hs start = let n : start ≡ start + 0 = omega arith in ap (λ s. subs_by_ids s hs) n
  subs-more (g ∷ gs) hs start =
      let n : start + length g + length (all_in gs) ≡ start + length (all_in (g ∷ gs)) = omega (arith, length-append g (all_in gs)) in
      ap (λ l. map (sub_by_ids start) g ++ l) (subs-more gs hs (start + length g) ∙ ap (λ s. subs_by_ids (start + length g) gs ++ subs_by_ids s hs) n)
      ∙ sym (append_assoc (map (sub_by_ids start) g) (subs_by_ids (start + length g) gs) (subs_by_ids (start + length (all_in (g ∷ gs))) hs))

  pub first_stay_first : FirstStayFirst A
  first_stay_first gs hs ts h =
      let ds = subs_by_ids 0 gs in
      let f = map_sub id_of in
      let l : length ts ≤ length ds = omega (arith, ap length h, length-map ts sub_of, length-map (take (length ts) ds) f, taken_within (length ts) ds) in
      h ∙ sym (ap (map f) (ap (take (length ts)) (subs-more gs hs 0) ∙ take_first ds (subs_by_ids (0 + length (all_in gs)) hs) (length ts) l))
