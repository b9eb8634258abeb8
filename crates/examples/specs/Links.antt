-- When a function of one module may be given where another asks for one. Core Specification 3.0, Validation, Matching (External Types): where both have
-- one type.
use Rattle.std.specs.Prelude.{ℕ, ◌≡◌, ◌<◌, List, length, slice_get, slice_index, Some}
use Rattle.wasm_readers_errors.specs.WasmReadersFeatures.declared.features.TheConstants.WasmFeatures.{STANDARD}
use Rattle.wasm_spec.specs.Features.{Features}
use Rattle.wasm_spec.specs.Trees.{DefType}
use Rattle.wasm_spec_rules.specs.FeatureFlags.{features_of}
use Rattle.wasm_spec_rules.specs.IndexSpaces.{index_spaces}
use Rattle.wasm_validator.specs.WasmSpecValidity.Modules.{IsValidModule}
use Rattle.wasm_validator.specs.WasmValidatorTypes.ShownModules.{Shown}

-- The bytes are a valid module, and the function with this index is there and has this type.
pub record HasFunction (F : Features) (bytes : List ℕ) (x : ℕ) (d : DefType) : Type 0 where
  pub module_valid : IsValidModule F bytes
  pub index : ℕ
  pub function : slice_get (index_spaces module_valid.well_formed.types.types module_valid.well_formed.parts).functions x ≡ Some index
  pub type : slice_get module_valid.well_formed.types.types index ≡ Some d

-- The first two modules have these functions, and these have one type.
pub record MayLink (modules : List (List ℕ)) (given wanted : ℕ) : Type 0 where
  pub exporter : List ℕ
  pub importer : List ℕ
  pub first : slice_get modules 0 ≡ Some exporter
  pub second : slice_get modules 1 ≡ Some importer
  pub type : DefType
  pub gives : HasFunction (features_of STANDARD) exporter given type
  pub takes : HasFunction (features_of STANDARD) importer wanted type

-- Two modules show these functions, and their types under one id.
pub record HaveOneId {A : Type 0} (s : Shown A) (given : ℕ) (t : Shown A) (wanted : ℕ) : Type 0 where
  pub is_given : given < length s.spaces.functions
  pub is_wanted : wanted < length t.spaces.functions
  pub one_id : slice_index s.spaces.types (slice_index s.spaces.functions given) ≡ slice_index t.spaces.types (slice_index t.spaces.functions wanted)
