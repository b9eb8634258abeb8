-- What a report tells of an answer.
use Rattle.std.specs.Prelude.{ℕ, ◌≡◌, ◌≤◌, List, length, map, slice_index, Option, Some, None}
use Rattle.std.specs.Option.{unwrap_or}
use Rattle.std.specs.declared.result.Result.TheVariants.{Ok, Err}
use Rattle.wasm_readers_errors.specs.WasmReadersFeatures.declared.features.WasmFeatures.{WasmFeatures}
use Rattle.wasm_validator_handles.specs.WasmValidator.WasmValidatorTypes.Rows.{all_imports}
use Rattle.wasm_validator_handles.specs.WasmValidator.WasmValidatorTypes.Spaces.{Spaces}
use Rattle.wasm_validator_handles.specs.WasmValidator.WasmValidatorTypes.ShownModules.{shown_of}
use Rattle.wasm_validator_handles.specs.WasmValidator.WasmValidatorCore.declared.error.Error.{Error}
use Rattle.wasm_validator_handles.specs.WasmValidator.WasmValidatorCore.declared.error.Error.TheVariants.{Refused, DuplicateExport, InFunction, OutOfMemory}
use Rattle.wasm_validator_handles.specs.WasmValidator.WasmValidatorCore.Errors.{offset_of, missing_of, function_of}
use Rattle.wasm_validator_handles.specs.WasmValidator.Verdict.{DecidesAlone}
use Rattle.wasm_validator_handles.specs.Entities.{counted}
use Rattle.ruthvelka_c.specs.declared.report.Report.{Report}
use Rattle.ruthvelka_c.specs.declared.report.TheConstants.{VALID, REFUSED, NO_MEMORY, NO_FUNCTION}
use Rattle.ruthvelka_c.specs.Answers.{Answer}
use Rattle.wasm_validator_handles.specs.Arrays.{AreWritten}

-- the proposals of these bits
abbrev pub flags : ℕ → WasmFeatures
flags bits = record { 0 = bits }

-- the bits of the proposal that is missing, if one is
abbrev pub bits_of : Option WasmFeatures → ℕ
bits_of (Some features) = features.0
bits_of None = 0

module _ {A : Type 0} where
  abbrev pub verdict_of : Error A → ℕ
  verdict_of (Refused r) = REFUSED
  verdict_of (DuplicateExport name offset) = REFUSED
  verdict_of (InFunction index r) = REFUSED
  verdict_of OutOfMemory = NO_MEMORY

  -- a refusal: where, for want of which proposal, and of which function's body
  pub record TellsRefusal (e : Error A) (r : Report) : Type 0 where
    pub verdict : r.verdict ≡ verdict_of e
    pub offset : r.offset ≡ offset_of e
    pub missing : r.missing_features ≡ bits_of (missing_of e)
    pub function : r.function ≡ unwrap_or (function_of e) NO_FUNCTION

-- an accepted module: how many items each of its index spaces has, and how many imports and exports there are
pub record TellsCounts (spaces : Spaces) (r : Report) : Type 0 where
  pub verdict : r.verdict ≡ VALID
  pub types : r.types ≡ length spaces.types
  pub functions : r.functions ≡ length spaces.functions
  pub tables : r.tables ≡ length spaces.tables
  pub memories : r.memories ≡ length spaces.memories
  pub globals : r.globals ≡ length spaces.globals
  pub tags : r.tags ≡ length spaces.tags
  pub imports : r.imports ≡ counted (length (all_imports spaces.imports))
  pub exports : r.exports ≡ counted (length spaces.exports)

abbrev pub Tells : Answer → Report → Type 0
Tells (Ok t) r = TellsCounts (shown_of t).spaces r
Tells (Err e) r = TellsRefusal e r

-- the ids of the module's types, and of the types of its functions, by their indices
abbrev pub function_ids : Spaces → List ℕ
function_ids spaces = map (slice_index spaces.types) spaces.functions

-- The ids of an accepted module stand in these arrays, which stay as they were behind them; and both do where it isn't accepted.
pub record IdsAreWritten (spaces : Spaces) (types_old types_new functions_old functions_new : List ℕ) : Type 0 where
  pub types : AreWritten spaces.types types_old types_new
  pub functions : AreWritten (function_ids spaces) functions_old functions_new

pub record IdsStay (types_old types_new functions_old functions_new : List ℕ) : Type 0 where
  pub types : types_new ≡ types_old
  pub functions : functions_new ≡ functions_old

abbrev pub GivesIds : Answer → List ℕ → List ℕ → List ℕ → List ℕ → Type 0
GivesIds (Ok t) types_old types_new functions_old functions_new = IdsAreWritten (shown_of t).spaces types_old types_new functions_old functions_new
GivesIds (Err e) types_old types_new functions_old functions_new = IdsStay types_old types_new functions_old functions_new

-- The offset of a refusal is one of these bytes, or that right behind them.
abbrev pub IsWithin : {A : Type 0} → List ℕ → Error A → Type 0
IsWithin bytes e = offset_of e ≤ length bytes

-- The report tells what a new validator with these proposals answers on these bytes: as `validate_all` does.
pub record Told (bytes : List ℕ) (features : ℕ) (r : Report) : Type 0 where
  pub answer : Answer
  pub decided : DecidesAlone answer bytes 0 (flags features)
  pub tells : Tells answer r

-- The same, with the ids of the same answer.
pub record ToldWithIds (bytes : List ℕ) (features : ℕ) (r : Report) (types_old types_new functions_old functions_new : List ℕ) : Type 0 where
  pub answer : Answer
  pub decided : DecidesAlone answer bytes 0 (flags features)
  pub tells : Tells answer r
  pub ids : GivesIds answer types_old types_new functions_old functions_new
