-- Parts of types, each in a group of a list.
use Rattle.std.specs.Prelude.{ℕ, ◌≡◌, List, map}
use Rattle.std.specs.Borrow.{Bor}
use Rattle.std.specs.List.{All}
use Rattle.wasm_spec.specs.Syntax.{Val, Comp, func, map_val, map_comp}
use Rattle.wasm_spec.specs.References.{refs_heap, refs_val, refs_storage, refs_field, refs_comp}
use Rattle.wasm_spec.specs.Matching.{MatchesComp}
use Rattle.wasm_readers_types.specs.declared.types.SubType.{SubType}
use Rattle.wasm_readers_types.specs.declared.types.ArrayType.{ArrayType}
use Rattle.wasm_readers_types.specs.declared.types.CompositeType.{CompositeType}
use Rattle.wasm_readers_types.specs.declared.types.ContType.{ContType}
use Rattle.wasm_readers_types.specs.WasmReadersValues.declared.indices.UnpackedIndex.{UnpackedIndex}
use Rattle.wasm_readers_types.specs.WasmReadersValues.declared.values.RefType.{RefType}
use Rattle.wasm_readers_types.specs.WasmReadersValues.declared.values.ValType.{ValType}
use Rattle.wasm_readers_types.specs.WasmReadersValues.declared.values.StorageType.{StorageType}
use Rattle.wasm_readers_types.specs.WasmReadersValues.declared.values.FieldType.{FieldType}
use Rattle.wasm_readers_types.specs.WasmReadersValues.SeenValues.{ref_of, val_of, storage_of, field_of}
use Rattle.wasm_readers_types.specs.SeenTypes.{array_of, cont_of, comp_of}
use Rattle.wasm_validator_type_list.specs.DeclarationsById.{declares}
use Rattle.wasm_validator_type_list.specs.GroupTypes.{leads_in, AreIn, RefsMatch, ValsMatch, StoragesMatch, FieldsMatch, SubsMatch}
use Rattle.wasm_validator_matches.specs.declared.with_rec_group.WithRecGroup.{WithRecGroup}

module _ {A : Type 0} (gs : List (List (SubType A))) where
  -- the references of the part may stand in its group
  abbrev pub RefStands : WithRecGroup RefType → Type 0
  RefStands a = AreIn gs a.rec_group.index (refs_heap (ref_of a.inner).heap)

  abbrev pub ValStands : WithRecGroup ValType → Type 0
  ValStands a = AreIn gs a.rec_group.index (refs_val (val_of a.inner))

  abbrev pub StorageStands : WithRecGroup StorageType → Type 0
  StorageStands a = AreIn gs a.rec_group.index (refs_storage (storage_of a.inner))

  abbrev pub FieldStands : WithRecGroup FieldType → Type 0
  FieldStands a = AreIn gs a.rec_group.index (refs_field (field_of a.inner))

  -- the references of value types may stand in the k-th group, and the value types over ids
  abbrev pub ListStands : ℕ → List ValType → Type 0
  ListStands k vs = All (λ v. AreIn gs k (refs_val (val_of v))) vs

  abbrev pub vals_by_ids : ℕ → List ValType → List (Val ℕ)
  vals_by_ids k vs = map (map_val (leads_in gs k)) (map val_of vs)

  -- function types with these parameters and results match, over ids
  abbrev pub SignaturesAgree : WithRecGroup (Bor (List ValType)) → WithRecGroup (Bor (List ValType)) → WithRecGroup (Bor (List ValType)) → WithRecGroup (Bor (List ValType)) → Type 0
  SignaturesAgree ps rs qs ss =
      MatchesComp (declares gs)
      (func (vals_by_ids ps.rec_group.index ps.inner.now) (vals_by_ids rs.rec_group.index rs.inner.now))
      (func (vals_by_ids qs.rec_group.index qs.inner.now) (vals_by_ids ss.rec_group.index ss.inner.now))

  -- the first matches the second, over ids
  abbrev pub RefsAgree : WithRecGroup RefType → WithRecGroup RefType → Type 0
  RefsAgree a b = RefsMatch gs a.rec_group.index b.rec_group.index a.inner b.inner

  abbrev pub ValsAgree : WithRecGroup ValType → WithRecGroup ValType → Type 0
  ValsAgree a b = ValsMatch gs a.rec_group.index b.rec_group.index a.inner b.inner

  abbrev pub StoragesAgree : WithRecGroup StorageType → WithRecGroup StorageType → Type 0
  StoragesAgree a b = StoragesMatch gs a.rec_group.index b.rec_group.index a.inner b.inner

  abbrev pub FieldsAgree : WithRecGroup FieldType → WithRecGroup FieldType → Type 0
  FieldsAgree a b = FieldsMatch gs a.rec_group.index b.rec_group.index a.inner b.inner

  abbrev pub ArrayStands : WithRecGroup ArrayType → Type 0
  ArrayStands a = AreIn gs a.rec_group.index (refs_comp (array_of a.inner))

  abbrev pub ArraysAgree : WithRecGroup ArrayType → WithRecGroup ArrayType → Type 0
  ArraysAgree a b = MatchesComp (declares gs) (map_comp (leads_in gs a.rec_group.index) (array_of a.inner)) (map_comp (leads_in gs b.rec_group.index) (array_of b.inner))

  abbrev pub ContStands : ℕ → ContType → Type 0
  ContStands k c = AreIn gs k (refs_comp (cont_of c))

  abbrev pub ContsAgree : ℕ → ℕ → ContType → ContType → Type 0
  ContsAgree j k a b = MatchesComp (declares gs) (map_comp (leads_in gs j) (cont_of a)) (map_comp (leads_in gs k) (cont_of b))

  -- the references of a composite type may stand in the k-th group
  abbrev pub CompStands : ℕ → Comp UnpackedIndex → Type 0
  CompStands k c = AreIn gs k (refs_comp c)

  -- composite types of the j-th and of the k-th group match
  abbrev pub CompsAgree : ℕ → ℕ → Comp UnpackedIndex → Comp UnpackedIndex → Type 0
  CompsAgree j k c d = MatchesComp (declares gs) (map_comp (leads_in gs j) c) (map_comp (leads_in gs k) d)

  -- with their shared flags
  abbrev pub CompositesAgree : ℕ → ℕ → CompositeType A → CompositeType A → Type 0
  CompositesAgree j k a b = (a.shared ≡ b.shared) × CompsAgree j k (comp_of a.inner) (comp_of b.inner)

  -- what sub types say matches, their finality, supertypes and clauses aside
  abbrev pub SubsAgree : ℕ → ℕ → SubType A → SubType A → Type 0
  SubsAgree j k a b = SubsMatch gs j k a b
