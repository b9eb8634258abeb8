-- What the answers on files say of them.
use Rattle.std.specs.Prelude.{ℕ, ◌≡◌, List, [], map, slice_get, Some, Any}
use Rattle.std.specs.declared.result.Result.{Result}
use Rattle.std.specs.declared.result.Result.TheVariants.{Ok, Err}
use Rattle.wasm_readers_errors.specs.WasmReadersFeatures.declared.features.WasmFeatures.{WasmFeatures}
use Rattle.wasm_spec_rules.specs.FeatureFlags.{features_of}
use Rattle.wasm_validator.specs.WasmValidatorTypes.declared.shown.Types as shown
use Rattle.wasm_validator.specs.WasmValidatorCore.declared.error.Error.{Error}
use Rattle.wasm_validator.specs.WasmValidatorCore.Errors.{IsMemory}
use Rattle.wasm_validator.specs.Headline.{Headline}
use Rattle.wasm_validate_files.specs.declared.files.Input.{Input}
use Rattle.wasm_validate_files.specs.Files.{bytes_held}

module _ {A : Type 0} where
  -- the answer is that memory was refused
  abbrev pub LacksMemory : Result (shown.Types A) (Error A) → Type 0
  LacksMemory (Ok t) = ⊥
  LacksMemory (Err e) = IsMemory e

  -- the answer at this place is that a module is valid
  abbrev pub IsOkAt : List (Result (shown.Types A) (Error A)) → ℕ → Type 0
  IsOkAt answers k = (t : shown.Types A) × (slice_get answers k ≡ Some (Ok t))

  -- The answers are those of a new validator with these features on these files.
  abbrev pub AreAnswers : WasmFeatures → List (Input A) → List (Result (shown.Types A) (Error A)) → Type 0
  AreAnswers features files answers = Headline (features_of features) (map bytes_held files) answers []

  -- And none of them is that memory was refused.
  pub record Tells (features : WasmFeatures) (files : List (Input A)) (answers : List (Result (shown.Types A) (Error A))) : Type 0 where
    pub headline : AreAnswers features files answers
    pub with_memory : Any LacksMemory answers → ⊥
