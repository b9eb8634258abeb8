-- What a sub type in a list says of the type of a module at an index whose id it has.
use Rattle.std.proofs.Common.{◌≡◌, refl, sym, ap, ◌∙◌, ℕ, ◌+◌, ◌<◌, List, [], ◌∷◌, map, length, slice_get, slice_index_or, get_or, Option, Some, None, arith}
use Rattle.std.specs.Option.{option_map, option_and_then}
use Rattle.std.proofs.lemmas.List.{length-map}
use Rattle.std.proofs.lemmas.Option.{none-some, slice_get_within, slice_get_read, slice_get-get_or, get_or_from_slice_get}
use Rattle.wasm_spec.specs.Syntax.{Comp, func, array, struct, cont, map_comp, map_val, Sub, map_sub}
use Rattle.wasm_spec.specs.Trees.{DefType, declared}
use Rattle.wasm_spec.specs.Matching.{shared_flag, is_shared_type}
use Rattle.wasm_validator_resources.specs.WasmSpecRules.IndexSpaces.{signature, type_at}
use Rattle.wasm_readers_types.specs.WasmReadersValues.SeenValues.{val_of}
use Rattle.wasm_readers_types.specs.SeenTypes.{comp_of}
use Rattle.wasm_readers_types.specs.WasmReadersValues.declared.indices.CoreTypeId.{CoreTypeId}
use Rattle.wasm_readers_types.specs.declared.types.CompositeInnerType.{CompositeInnerType}
use Rattle.wasm_readers_types.specs.declared.types.CompositeInnerType.TheVariants.{Func, Array, Struct, Cont}
use Rattle.wasm_readers_types.specs.declared.types.SubType.{SubType}
use Rattle.wasm_validator_type_list.specs.DeclarationsById.{sub_by_ids, subs_by_ids, declares}
use Rattle.wasm_validator_type_list.specs.WasmValidatorTypeGroups.Groups.{all_in}
use Rattle.wasm_validator_type_list.specs.Laws.{type_of_id}
use Rattle.wasm_validator_type_list.specs.GroupOrder.{AreListable}
use Rattle.wasm_validator_type_list.specs.ListViews.{Listing, types_in}
use Rattle.wasm_validator_type_list.specs.Lookups.{leads_to}
use Rattle.wasm_validator_type_list.proofs.IdsAndTypes.{types_declare_what_ids_declare}
use Rattle.wasm_validator_type_list.proofs.WasmValidatorTypeGroups.Places.{get-left, get-right, get-map, get-append}
use Rattle.wasm_validator_type_list.proofs.DefTypes.{length-def_types}
use Rattle.wasm_validator_canonical.specs.Arities.{arity, type_arity}
use Rattle.wasm_validator_canonical.specs.Groups.{nowhere}
use Rattle.wasm_validator_canonical.specs.Indices.{numbers}
use Rattle.wasm_validator_type_list.specs.DefTypes.{types_of_list}
use Rattle.wasm_validator_checks.specs.ModuleTypes.{module_types, AreKnown, IsSubTypeAt, arity_at, func_arity}

-- how many parameters and results a composite type has, whatever its references are
abbrev comp_arity : {R : Type 0} → Comp R → Option (ℕ × ℕ)
comp_arity (func ps rs) = Some (length ps, length rs)
comp_arity (array x) = None
comp_arity (struct xs) = None
comp_arity (cont r) = None

mapped_arity : {R S : Type 0} (f : R → S) (c : Comp R) → comp_arity (map_comp f c) ≡ comp_arity c
mapped_arity f (func ps rs) = λ i. Some (length-map ps (map_val f) i, length-map rs (map_val f) i)
mapped_arity f (array x) = refl
mapped_arity f (struct xs) = refl
mapped_arity f (cont r) = refl

signature_arity : (c : Comp DefType) → option_map arity (signature c) ≡ comp_arity c
signature_arity (func ps rs) = refl
signature_arity (array x) = refl
signature_arity (struct xs) = refl
signature_arity (cont r) = refl

seen_arity : {A : Type 0} (x : CompositeInnerType A) → func_arity x ≡ comp_arity (comp_of x)
seen_arity (Func f) = λ i. Some (sym (length-map f.params val_of) i, sym (length-map f.results val_of) i)
seen_arity (Array x) = refl
seen_arity (Struct x) = refl
seen_arity (Cont x) = refl

module _ {A : Type 0} where
  -- what an id declares is what its sub type says
  subs_at : (gs : List (List (SubType A))) (start id : ℕ) (ty : SubType A) → slice_get (all_in gs) id ≡ Some ty → (n : ℕ) × (slice_get (subs_by_ids start gs) id ≡ Some (sub_by_ids n ty))
  subs_at [] start id ty e = absurd (none-some ty e)
  subs_at (g ∷ gs) start id ty e =
      let here = map (sub_by_ids start) g in
      let behind = subs_by_ids (start + length g) gs in
      get-append g (all_in gs) id ty e
      (λ f. (start, get-left here behind id (omega (arith, slice_get_within g id ty f, length-map g (sub_by_ids start))) ∙ get-map (sub_by_ids start) g id ty f))
      (λ j k f. let r = subs_at gs (start + length g) j ty f in let n : id ≡ length here + j = omega (arith, k, length-map g (sub_by_ids start)) in (r.0, ap (slice_get (subs_by_ids start (g ∷ gs))) n ∙ get-right here behind j ∙ r.1))

  declares_at : (gs : List (List (SubType A))) (id : ℕ) (ty : SubType A) → slice_get (all_in gs) id ≡ Some ty → (n : ℕ) × (declares gs id ≡ Some (sub_by_ids n ty))
  unfolding declares
  declares_at gs id ty e = subs_at gs 0 id ty e

  module _ (list : Listing A) (ids : List CoreTypeId) (x : ℕ) (id : CoreTypeId) (ty : SubType A) (at : slice_get ids x ≡ Some id) (there : slice_get (types_in list) id.index ≡ Some ty) where
    abbrev listed : DefType
    listed = get_or (types_of_list list) id.index nowhere

    at_index : slice_get (module_types list ids) x ≡ Some listed
    at_index = get-map (λ n. get_or (types_of_list list) n nowhere) (numbers ids) x id.index (get-map (λ (i : CoreTypeId). i.index) ids x id at)

    -- the type at the index declares what the sub type says, with other references
    declares_listed : AreListable list.groups → (n : ℕ) × (declared listed ≡ Some (map_sub (type_of_id (types_of_list list) nowhere) (sub_by_ids n ty)))
    declares_listed h =
        let us = types_of_list list in
        let inside : id.index < length us = omega (arith, slice_get_within (types_in list) id.index ty there, length-def_types list.is_canonical list.groups) in
        let d = declares_at list.groups id.index ty there in
        (d.0, types_declare_what_ids_declare list.is_canonical list.groups nowhere h id.index listed (slice_get-get_or us id.index nowhere inside) ∙ ap (option_map (map_sub (type_of_id us nowhere))) d.1)

    pub shared_listed : AreListable list.groups → ty.composite_type.shared ≡ is_shared_type declared (type_at (module_types list ids) x)
    shared_listed h = sym (ap (is_shared_type declared) (get_or_from_slice_get (module_types list ids) x listed nowhere at_index) ∙ ap shared_flag (declares_listed h).1)

    pub arity_listed : AreListable list.groups → func_arity ty.composite_type.inner ≡ arity_at (module_types list ids) x
    arity_listed h =
        let d = declares_listed h in
        let c = comp_of ty.composite_type.inner in
        seen_arity ty.composite_type.inner
        ∙ sym
        (ap (option_and_then type_arity) at_index
        ∙ ap (λ o. option_map arity (option_and_then (λ (s : Sub DefType). signature s.comp) o)) d.1
        ∙ signature_arity (map_comp (type_of_id (types_of_list list) nowhere) (sub_by_ids d.0 ty).comp)
        ∙ mapped_arity (type_of_id (types_of_list list) nowhere) (sub_by_ids d.0 ty).comp
        ∙ mapped_arity (leads_to d.0) c)

  pub length_module_types : (list : Listing A) (ids : List CoreTypeId) → length (module_types list ids) ≡ length ids
  length_module_types list ids = length-map (numbers ids) (λ n. get_or (types_of_list list) n nowhere) ∙ length-map ids (λ (i : CoreTypeId). i.index)

  -- the list has a type under the id at each index
  pub known_listed : (list : Listing A) (ids : List CoreTypeId) → AreKnown list ids → (x : ℕ) (d : CoreTypeId) → x < length ids → (slice_index_or ids x d).index < length (types_in list)
  known_listed list ids h x d l = omega (arith, h x d l, length-def_types list.is_canonical list.groups)

  pub sub_type_there : (list : Listing A) (ids : List CoreTypeId) (x : ℕ) (id : CoreTypeId) (ty : SubType A) → slice_get ids x ≡ Some id → id.index < length (types_in list) → ty ≡ slice_index_or (types_in list) id.index ty → IsSubTypeAt list ids x ty
  sub_type_there list ids x id ty at l e = record { id = id; at = at; there = slice_get_read (types_in list) (length (types_in list)) id.index ty refl l e }

  pub sub_type_shared : (list : Listing A) (ids : List CoreTypeId) (x : ℕ) (ty : SubType A) → AreListable list.groups → IsSubTypeAt list ids x ty → ty.composite_type.shared ≡ is_shared_type declared (type_at (module_types list ids) x)
  sub_type_shared list ids x ty h s = shared_listed list ids x s.id ty s.at s.there h

  pub sub_type_arity : (list : Listing A) (ids : List CoreTypeId) (x : ℕ) (ty : SubType A) → AreListable list.groups → IsSubTypeAt list ids x ty → func_arity ty.composite_type.inner ≡ arity_at (module_types list ids) x
  sub_type_arity list ids x ty h s = arity_listed list ids x s.id ty s.at s.there h

  pub sub_type_found : (list : Listing A) (ids : List CoreTypeId) (x : ℕ) (d : CoreTypeId) (ty : SubType A) → AreKnown list ids → x < length ids → ty ≡ slice_index_or (types_in list) (slice_index_or ids x d).index ty → IsSubTypeAt list ids x ty
  sub_type_found list ids x d ty h l e = sub_type_there list ids x (slice_index_or ids x d) ty (slice_get-get_or ids x d l) (known_listed list ids h x d l) e
