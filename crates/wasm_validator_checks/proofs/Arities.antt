-- Parameters and results as they are written in a list of types, and those of the types that its ids stand for.
use Rattle.std.proofs.Common.{◌≡◌, refl, sym, ap, ◌∙◌, ℕ, zero, suc, ◌+◌, ◌<◌, Bool, List, [], ◌∷◌, ◌++◌, map, length, slice_get, Option, Some, None, arith}
use Rattle.std.specs.Option.{option_map, option_and_then}
use Rattle.std.proofs.lemmas.List.{length-map, map-append}
use Rattle.wasm_spec.specs.Syntax.{Comp, func, array, struct, cont, map_comp, map_val, Sub, map_sub}
use Rattle.wasm_spec.specs.Trees.{DefType}
use Rattle.wasm_validator_resources.specs.WasmSpecRules.IndexSpaces.{signature, nowhere}
use Rattle.wasm_readers_types.specs.WasmReadersValues.declared.indices.UnpackedIndex.{UnpackedIndex}
use Rattle.wasm_readers_types.specs.declared.types.SubType.{SubType}
use Rattle.wasm_readers_types.specs.SeenTypes.{sub_of}
use Rattle.wasm_validator_type_list.specs.DeclarationsById.{declares, sub_by_ids, subs_by_ids}
use Rattle.wasm_validator_type_list.specs.WasmValidatorTypeGroups.Groups.{all_in}
use Rattle.wasm_validator_type_list.specs.Laws.{type_of_id}
use Rattle.wasm_validator_type_list.specs.GroupOrder.{AreListable}
use Rattle.wasm_validator_type_list.specs.Lookups.{leads_to}
use Rattle.wasm_validator_type_list.specs.DefTypes.{def_types}
use Rattle.wasm_validator_type_list.proofs.IdsAndTypes.{types_declare_what_ids_declare}
use Rattle.wasm_validator_type_list.proofs.DefTypes.{length-def_types}
use Rattle.wasm_validator_canonical.specs.Arities.{arity, type_arity, arity_at}
use Rattle.wasm_validator_checks.specs.Arities.{written_arity, written_arity_at}

-- what is written in the list is what its types have
mapped_arity : {R : Type 0} (f : R → DefType) (c : Comp R) → option_map arity (signature (map_comp f c)) ≡ written_arity c
mapped_arity f (func ps rs) = λ i. Some (length-map ps (map_val f) i, length-map rs (map_val f) i)
mapped_arity f (array x) = refl
mapped_arity f (struct xs) = refl
mapped_arity f (cont r) = refl

renamed_arity : {R S : Type 0} (f : R → S) (c : Comp R) → written_arity (map_comp f c) ≡ written_arity c
renamed_arity f (func ps rs) = λ i. Some (length-map ps (map_val f) i, length-map rs (map_val f) i)
renamed_arity f (array x) = refl
renamed_arity f (struct xs) = refl
renamed_arity f (cont r) = refl

abbrev sub_arity : {R : Type 0} → Sub R → Option (ℕ × ℕ)
sub_arity s = written_arity s.comp

declared_arity : {R : Type 0} (f : R → DefType) (o : Option (Sub R)) → option_map arity (option_and_then (λ (s : Sub DefType). signature s.comp) (option_map (map_sub f) o)) ≡ option_and_then sub_arity o
declared_arity f None = refl
declared_arity f (Some s) = mapped_arity f s.comp

joined : {X : Type 0} (f : X → Option (ℕ × ℕ)) (xs : List X) (k : ℕ) → option_and_then f (slice_get xs k) ≡ option_and_then (λ o. o) (slice_get (map f xs) k)
joined f [] k = refl
joined f (x ∷ xs) zero = refl
joined f (x ∷ xs) (suc k) = joined f xs k

none_past : {X : Type 0} (xs : List X) (k : ℕ) → length xs < suc k → slice_get xs k ≡ None
none_past [] k h = refl
none_past (x ∷ xs) zero h = absurd (omega (arith, h))
none_past (x ∷ xs) (suc k) h = none_past xs k (omega (arith, h))

past : {X : Type 0} (xs : List X) (k : ℕ) → slice_get xs k ≡ None → length xs < suc k
past [] k e = omega arith
past (x ∷ xs) zero e = absurd cc
past (x ∷ xs) (suc k) e = let h = past xs k e in omega (arith, h)

module _ {A : Type 0} where
  group_arities : (start : ℕ) (g : List (SubType A)) → map sub_arity (map (sub_by_ids start) g) ≡ map sub_arity (map sub_of g)
  group_arities start [] = refl
  group_arities start (s ∷ g) = λ i. renamed_arity (leads_to start) (sub_of s).comp i ∷ group_arities start g i

  list_arities : (start : ℕ) (gs : List (List (SubType A))) → map sub_arity (subs_by_ids start gs) ≡ map sub_arity (map sub_of (all_in gs))
  list_arities start [] = refl
  list_arities start (g ∷ gs) =
      map-append sub_arity (map (sub_by_ids start) g) (subs_by_ids (start + length g) gs)
      ∙ (λ i. group_arities start g i ++ list_arities (start + length g) gs i)
      ∙ sym (ap (map sub_arity) (map-append sub_of g (all_in gs)) ∙ map-append sub_arity (map sub_of g) (map sub_of (all_in gs)))

  declared_in : (gs : List (List (SubType A))) (id : ℕ) → option_and_then sub_arity (declares gs id) ≡ written_arity_at (map sub_of (all_in gs)) id
  unfolding declares
  declared_in gs id = joined sub_arity (subs_by_ids 0 gs) id ∙ ap (λ l. option_and_then (λ o. o) (slice_get l id)) (list_arities 0 gs) ∙ sym (joined sub_arity (map sub_of (all_in gs)) id)

  at_type : (c : Bool) (gs : List (List (SubType A))) → AreListable gs → (id : ℕ) (o : Option DefType) → slice_get (def_types c gs) id ≡ o → option_and_then type_arity o ≡ written_arity_at (map sub_of (all_in gs)) id
  at_type c gs l id None e =
      let behind = past (def_types c gs) id e in
      let many = length-def_types c gs in
      let listed = length-map (all_in gs) sub_of in
      sym (ap (option_and_then (λ (t : Sub UnpackedIndex). written_arity t.comp)) (none_past (map sub_of (all_in gs)) id (omega (arith, behind, many, listed))))
  at_type c gs l id (Some d) e =
      ap (λ o. option_map arity (option_and_then (λ (s : Sub DefType). signature s.comp) o)) (types_declare_what_ids_declare c gs nowhere l id d e)
      ∙ declared_arity (type_of_id (def_types c gs) nowhere) (declares gs id)
      ∙ declared_in gs id

  pub written_arities : (c : Bool) (gs : List (List (SubType A))) → AreListable gs → (id : ℕ) → written_arity_at (map sub_of (all_in gs)) id ≡ arity_at (def_types c gs) id
  written_arities c gs l id = sym (at_type c gs l id (slice_get (def_types c gs) id) refl)
