-- What is told of the imports and the exports of a module.
use Rattle.std.specs.Prelude.{ℕ, ◌≡◌, List, [], length, slice_get, Some}
use Rattle.std.specs.Option.{option_map}
use Rattle.std.specs.declared.result.Result.TheVariants.{Ok, Err}
use Rattle.wasm_validator_handles.specs.WasmValidator.WasmValidatorTypes.Spaces.{Spaces}
use Rattle.wasm_validator_handles.specs.WasmValidator.WasmValidatorTypes.ShownModules.{shown_of}
use Rattle.wasm_validator_handles.specs.Entities.{AreOf, plain_of}
use Rattle.wasm_validator_handles.specs.declared.entities.Extern.{Extern}
use Rattle.wasm_validator_handles.specs.declared.entities.ExternType.{ExternType}
use Rattle.wasm_validator_handles.specs.declared.entities.Externs as gathered
use Rattle.wasm_validator_handles.specs.WasmValidator.Verdict.{DecidesAlone}
use Rattle.ruthvelka_c.specs.declared.report.Report.{Report}
use Rattle.ruthvelka_c.specs.Answers.{Answer}
use Rattle.ruthvelka_c.specs.Reports.{Tells, flags}
use Rattle.wasm_validator_handles.specs.Arrays.{AreWritten, AreTold}

abbrev pub AreGathered : Answer → gathered.Externs → Type 0
AreGathered (Ok t) e = AreOf (shown_of t).spaces e.imports.items e.exports.items e.names.items
AreGathered (Err x) e = (e.imports.items ≡ []) × (e.exports.items ≡ []) × (e.names.items ≡ [])

-- these stand in the array from its beginning, as far as there is room, and all behind them is as it was
abbrev pub ExternsTell : List ExternType → List Extern → List Extern → Type 0
ExternsTell given old new = AreTold (λ k e. option_map plain_of (slice_get given k) ≡ Some e) (length given) old new

-- They stand in these arrays, as far as there is room; and all that is in the arrays stays where the module isn't accepted.
pub record ExternsAreWritten
    (spaces : Spaces) (r : Report) (imports_old imports_new exports_old exports_new : List Extern) (names_old names_new : List ℕ) : Type 0 where
  pub imports : List ExternType
  pub exports : List ExternType
  pub names : List ℕ
  pub are : AreOf spaces imports exports names
  pub imports_written : ExternsTell imports imports_old imports_new
  pub exports_written : ExternsTell exports exports_old exports_new
  pub names_written : AreWritten names names_old names_new
  pub names_length : r.names_length ≡ length names

pub record ExternsStay (imports_old imports_new exports_old exports_new : List Extern) (names_old names_new : List ℕ) : Type 0 where
  pub imports : ExternsTell [] imports_old imports_new
  pub exports : ExternsTell [] exports_old exports_new
  pub names : AreWritten [] names_old names_new

abbrev pub GivesExterns : Answer → Report → List Extern → List Extern → List Extern → List Extern → List ℕ → List ℕ → Type 0
GivesExterns (Ok t) r imports_old imports_new exports_old exports_new names_old names_new =
    ExternsAreWritten (shown_of t).spaces r imports_old imports_new exports_old exports_new names_old names_new
GivesExterns (Err e) r imports_old imports_new exports_old exports_new names_old names_new =
    ExternsStay imports_old imports_new exports_old exports_new names_old names_new

-- The report tells what a new validator with these proposals answers on these bytes, or that memory was refused, with the imports and exports of the
-- same answer.
pub record ToldWithExterns
    (bytes : List ℕ) (features : ℕ) (r : Report) (imports_old imports_new exports_old exports_new : List Extern) (names_old names_new : List ℕ) : Type 0 where
  pub answer : Answer
  pub decided : DecidesAlone answer bytes 0 (flags features)
  pub tells : Tells answer r
  pub externs : GivesExterns answer r imports_old imports_new exports_old exports_new names_old names_new
