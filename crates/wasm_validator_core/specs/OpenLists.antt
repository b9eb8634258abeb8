-- When the types of a module may be added to the list of a validator.
use Rattle.std.specs.Prelude.{ℕ, ◌≡◌, ◌<◌, ◌≤◌, List, length, IsTrue}
use Rattle.std.specs.List.{All}
use Rattle.wasm_spec.specs.Features.{canonical}
use Rattle.wasm_spec_rules.specs.FeatureFlags.{features_of}
use Rattle.wasm_readers_errors.specs.WasmReadersFeatures.declared.features.WasmFeatures.{WasmFeatures}
use Rattle.wasm_validator_checks.specs.WasmValidatorTypeList.ListViews.{Listing}
use Rattle.wasm_validator_checks.specs.WasmValidatorTypeList.DefTypes.{types_of_list}
use Rattle.wasm_validator_core.specs.declared.limits.TheConstants.{MAX_TYPES}
pub use Rattle.wasm_validator_checks.specs.ModuleTypeIds.{AreSmall, IsTyped, AreHeld}

module _ {A : Type 0} where
  -- groups may be added to the list, and equal types are one there where the features ask for it
  pub record IsOpenFor (features : WasmFeatures) (list : Listing A) : Type 0 where
    pub is_open : IsTrue list.is_open
    pub mode : list.is_canonical ≡ canonical (features_of features)

  -- the ids of a module's types are of the list, and no more than a module may have
  pub record AreIdsOf (list : Listing A) (ids : List ℕ) : Type 0 where
    pub known : All (λ id. id < length (types_of_list list)) ids
    pub few : length ids ≤ MAX_TYPES
