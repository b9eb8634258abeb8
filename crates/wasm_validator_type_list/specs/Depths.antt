-- The numbers of proper ancestors that a list keeps of its types.
pub use Rattle.wasm_validator_type_ancestors.specs.Depths.{depth_of, with_depth}
use Rattle.wasm_validator_type_ancestors.specs.Depths.{depth_of}
use Rattle.std.specs.Prelude.{ℕ, ◌≡◌, ◌<◌, List, length}
use Rattle.std.specs.declared.option.Option.TheVariants.{Some}
use Rattle.wasm_readers_errors.specs.WasmSpec.SupertypeOrder.{IsDepth}
use Rattle.wasm_readers_types.specs.declared.types.SubType.{SubType}
use Rattle.wasm_validator_type_ancestors.specs.WasmValidatorTypeGroups.Groups.{all_in}
use Rattle.wasm_validator_type_list.specs.DeclarationsById.{declares}

-- there is a type with this id, and it has so many proper ancestors
pub record HasDepth {A : Type 0} (gs : List (List (SubType A))) (id n : ℕ) : Type 0 where
  pub there : id < length (all_in gs)
  pub depth : IsDepth (declares gs) id n

-- each number that is kept is right
abbrev pub AreDepths : {A : Type 0} → List (List (SubType A)) → List (ℕ × ℕ) → Type 0
AreDepths gs depths = (id n : ℕ) → depth_of depths id ≡ Some n → HasDepth gs id n
