-- How files are counted that one validator checks.
use Rattle.std.specs.Prelude.{◌≡◌, List, length}
use Rattle.std.specs.declared.alloc.Global.{Global}
use Rattle.std.specs.declared.result.Result.{Result}
use Rattle.wasm_check_reports.specs.WasmValidateFiles.WasmValidatorTypes.declared.shown.Types as shown
use Rattle.wasm_check_reports.specs.WasmValidateFiles.WasmValidatorCore.declared.error.Error.{Error}
use Rattle.wasm_readers_errors.specs.WasmReadersFeatures.declared.features.WasmFeatures.{WasmFeatures}
use Rattle.wasm_check_reports.specs.WasmValidateFiles.declared.files.Input.{Input}
use Rattle.wasm_check_reports.specs.WasmValidateFiles.Answers.{AreAnswers}
use Rattle.wasm_check_reports.specs.declared.summary.Summary.{Summary}
use Rattle.wasm_check_reports.specs.Summaries.{with_answers}

-- Each file counts once, by what one new validator answers on it among these files.
pub record AreCounted (features : WasmFeatures) (files : List (Input Global)) (old new : Summary) : Type 0 where
  pub answers : List (Result (shown.Types Global) (Error Global))
  pub right : AreAnswers features files answers
  pub counted : new ≡ with_answers old answers (length files)
