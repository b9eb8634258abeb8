-- Types as they stand in the groups of a list, and matching between them.
use Rattle.std.specs.Prelude.{ℕ, ◌≡◌, ◌+◌, ◌-◌, ◌<◌, List, map, length, Option}
use Rattle.std.specs.declared.option.Option.TheVariants.{Some}
use Rattle.std.specs.List.{All}
use Rattle.wasm_readers_errors.specs.WasmSpec.Syntax.{Heap, Ref, Val, Storage, Field, Comp, Sub, map_heap, map_ref, map_val, map_storage, map_field, map_comp, map_sub}
use Rattle.wasm_readers_errors.specs.WasmSpec.Matching.{MatchesRef, MatchesVal, MatchesStorage, MatchesField, MatchesFields, MatchesComp, MatchesSub}
use Rattle.wasm_readers_types.specs.WasmReadersValues.declared.indices.UnpackedIndex.{UnpackedIndex}
use Rattle.wasm_readers_types.specs.declared.types.CompositeInnerType.{CompositeInnerType}
use Rattle.wasm_readers_types.specs.declared.types.SubType.{SubType}
use Rattle.wasm_readers_types.specs.WasmReadersValues.declared.values.HeapType.{HeapType}
use Rattle.wasm_readers_types.specs.WasmReadersValues.declared.values.RefType.{RefType}
use Rattle.wasm_readers_types.specs.WasmReadersValues.declared.values.StorageType.{StorageType}
use Rattle.wasm_readers_types.specs.WasmReadersValues.declared.values.ValType.{ValType}
use Rattle.wasm_readers_types.specs.WasmReadersValues.declared.values.FieldType.{FieldType}
use Rattle.wasm_readers_types.specs.WasmReadersValues.SeenValues.{heap_of, ref_of, val_of, storage_of, field_of}
use Rattle.wasm_readers_types.specs.SeenTypes.{comp_of, sub_of}
use Rattle.wasm_validator_type_ancestors.specs.WasmValidatorTypeGroups.Groups.{first_of}
use Rattle.wasm_validator_type_list.specs.GroupOrder.{IsKnown}
use Rattle.wasm_validator_type_list.specs.Lookups.{leads_to}
use Rattle.wasm_validator_type_list.specs.DeclarationsById.{declares}

module _ {A : Type 0} (gs : List (List (SubType A))) where
  -- the number of the id that a reference in the k-th group leads to
  abbrev pub leads_in : ℕ → UnpackedIndex → ℕ
  leads_in k r = leads_to (first_of gs k) r

  -- the reference is one that may stand in the k-th group
  abbrev pub IsKnownIn : ℕ → UnpackedIndex → Type 0
  IsKnownIn k r = IsKnown (first_of gs k) (first_of gs (k + 1) - first_of gs k) r

  -- what types of the k-th group say, over the numbers of ids
  abbrev pub heap_in : ℕ → HeapType → Heap ℕ
  heap_in k h = map_heap (leads_in k) (heap_of h)

  abbrev pub ref_in : ℕ → RefType → Ref ℕ
  ref_in k r = map_ref (leads_in k) (ref_of r)

  abbrev pub val_in : ℕ → ValType → Val ℕ
  val_in k v = map_val (leads_in k) (val_of v)

  abbrev pub storage_in : ℕ → StorageType → Storage ℕ
  storage_in k s = map_storage (leads_in k) (storage_of s)

  abbrev pub field_in : ℕ → FieldType → Field ℕ
  field_in k f = map_field (leads_in k) (field_of f)

  abbrev pub comp_in : ℕ → CompositeInnerType A → Comp ℕ
  comp_in k c = map_comp (leads_in k) (comp_of c)

  abbrev pub sub_in : ℕ → SubType A → Sub ℕ
  sub_in k s = map_sub (leads_in k) (sub_of s)

  -- types of the j-th and of the k-th group match
  abbrev pub RefsMatch : ℕ → ℕ → RefType → RefType → Type 0
  RefsMatch j k a b = MatchesRef (declares gs) (ref_in j a) (ref_in k b)

  abbrev pub ValsMatch : ℕ → ℕ → ValType → ValType → Type 0
  ValsMatch j k a b = MatchesVal (declares gs) (val_in j a) (val_in k b)

  abbrev pub StoragesMatch : ℕ → ℕ → StorageType → StorageType → Type 0
  StoragesMatch j k a b = MatchesStorage (declares gs) (storage_in j a) (storage_in k b)

  abbrev pub FieldsMatch : ℕ → ℕ → FieldType → FieldType → Type 0
  FieldsMatch j k a b = MatchesField (declares gs) (field_in j a) (field_in k b)

  abbrev pub FieldListsMatch : ℕ → ℕ → List FieldType → List FieldType → Type 0
  FieldListsMatch j k xs ys = MatchesFields (declares gs) (map (λ f. field_in j f) xs) (map (λ f. field_in k f) ys)

  abbrev pub CompsMatch : ℕ → ℕ → CompositeInnerType A → CompositeInnerType A → Type 0
  CompsMatch j k a b = MatchesComp (declares gs) (comp_in j a) (comp_in k b)

  abbrev pub SubsMatch : ℕ → ℕ → SubType A → SubType A → Type 0
  SubsMatch j k a b = MatchesSub (declares gs) (sub_in j a) (sub_in k b)

-- the list has the k-th group, and the references may stand in it
pub record AreIn {A : Type 0} (gs : List (List (SubType A))) (k : ℕ) (rs : List UnpackedIndex) : Type 0 where
  pub there : k < length gs
  pub known : All (IsKnownIn gs k) rs

-- what a declares matches what b declares
pub record MatchesDeclared (D : ℕ → Option (Sub ℕ)) (a b : ℕ) : Type 0 where
  pub sub : Sub ℕ
  pub sup : Sub ℕ
  pub declares_sub : D a ≡ Some sub
  pub declares_sup : D b ≡ Some sup
  pub matches : MatchesSub D sub sup
