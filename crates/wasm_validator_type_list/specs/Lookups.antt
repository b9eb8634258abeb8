-- Where references in a list lead.
pub use Rattle.wasm_validator_type_ancestors.specs.Supers.{leads_to}
use Rattle.std.specs.Prelude.{ℕ, ◌≡◌, ◌+◌, ◌<◌, ⊤, List, slice_get, Option, option_map}
use Rattle.std.specs.declared.ops.Range.{Range}
use Rattle.std.specs.declared.option.Option.TheVariants.{Some}
use Rattle.wasm_readers_types.specs.WasmReadersValues.SeenValues.{index_of}
use Rattle.wasm_readers_types.specs.WasmReadersValues.declared.indices.CoreTypeId.{CoreTypeId}
use Rattle.wasm_readers_types.specs.WasmReadersValues.declared.indices.PackedIndex.{PackedIndex}
use Rattle.wasm_readers_types.specs.WasmReadersValues.declared.indices.UnpackedIndex.{UnpackedIndex}
use Rattle.wasm_readers_types.specs.WasmReadersValues.declared.indices.UnpackedIndex.TheVariants.{Module, RecGroup, Id}
use Rattle.wasm_readers_types.specs.declared.types.SubType.{SubType}
use Rattle.wasm_validator_type_ancestors.specs.WasmValidatorTypeGroups.Groups.{all_in, first_of, IsInGroup}
use Rattle.wasm_validator_type_ancestors.specs.WasmValidatorTypeGroups.Spans.{span}

-- the reference leads to an id, where the group's ids have the numbers from start to below end
abbrev pub Leads : ℕ → ℕ → UnpackedIndex → Type 0
Leads start end (Module i) = ⊥
Leads start end (RecGroup i) = start + i < end
Leads start end (Id id) = ⊤

-- the range of ids of the k-th group
abbrev pub group_span : {A : Type 0} → List (List (SubType A)) → ℕ → Range CoreTypeId
group_span gs k = span (first_of gs k) (first_of gs (k + 1))

-- it is the supertype of the type with this id, or there is none
pub record IsSupertypeAt {A : Type 0} (gs : List (List (SubType A))) (place : ℕ) (supertype : Option CoreTypeId) : Type 0 where
  pub group : ℕ
  pub ty : SubType A
  pub in_group : IsInGroup gs group place
  pub there : slice_get (all_in gs) place ≡ Some ty
  pub leads : option_map (λ (id : CoreTypeId). id.index) supertype ≡ option_map (λ (p : PackedIndex). leads_to (first_of gs group) (index_of p)) (slice_get ty.supertype_idxs 0)
