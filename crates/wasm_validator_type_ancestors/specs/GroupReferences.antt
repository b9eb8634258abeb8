-- Groups that may stand in a list: their references are ids of types before them, and positions in themselves.
use Rattle.std.specs.Prelude.{ℕ, ◌≡◌, ◌≤◌, ◌<◌, List, length, slice_get}
use Rattle.std.specs.declared.option.Option.TheVariants.{Some}
use Rattle.std.specs.List.{All}
use Rattle.wasm_validator_type_groups.specs.WasmSpec.References.{refs_sub}
use Rattle.wasm_validator_type_groups.specs.WasmReadersTypes.WasmReadersValues.Indices.{IsId}
use Rattle.wasm_validator_type_groups.specs.WasmReadersTypes.WasmReadersValues.SeenValues.{index_of}
use Rattle.wasm_validator_type_groups.specs.WasmReadersTypes.WasmReadersValues.declared.indices.UnpackedIndex.{UnpackedIndex}
use Rattle.wasm_validator_type_groups.specs.WasmReadersTypes.WasmReadersValues.declared.indices.UnpackedIndex.TheVariants.{Module, RecGroup, Id}
use Rattle.wasm_validator_type_groups.specs.WasmReadersTypes.declared.types.SubType.{SubType}
use Rattle.wasm_validator_type_groups.specs.WasmReadersTypes.SeenTypes.{sub_of}

-- the reference is the id of one of so many types, or one of so many positions
abbrev pub IsKnown : ℕ → ℕ → UnpackedIndex → Type 0
IsKnown types positions (Module i) = ⊥
IsKnown types positions (RecGroup i) = i < positions
IsKnown types positions (Id id) = id.index < types

module _ {A : Type 0} where
  -- a group behind so many types: its references are known, and a type has at most one supertype, which comes before it
  pub record IsListable (types : ℕ) (g : List (SubType A)) : Type 0 where
    pub known : All (λ s. All (IsKnown types (length g)) (refs_sub (sub_of s))) g
    pub one_supertype : All (λ (s : SubType A). length s.supertype_idxs ≤ 1) g
    pub earlier : (i : ℕ) (s : SubType A) → slice_get g i ≡ Some s → All (λ p. IsKnown types i (index_of p)) s.supertype_idxs

  -- of a type at this place among so many positions of a group the same
  pub record IsListableAt (types positions place : ℕ) (s : SubType A) : Type 0 where
    pub known : All (IsKnown types positions) (refs_sub (sub_of s))
    pub one_supertype : length s.supertype_idxs ≤ 1
    pub earlier : All (λ p. IsKnown types place (index_of p)) s.supertype_idxs

-- no reference in the types is a position in a group, or a module's index
abbrev pub ReferByIds : {A : Type 0} → List (SubType A) → Type 0
ReferByIds types = All (λ s. All IsId (refs_sub (sub_of s))) types
