-- The exit status for the answers on files.
use Rattle.std.specs.Prelude.{ℕ, ◌≡◌, ◌<◌, ◌≤◌, ◌⊎◌, List, slice_get, Option, Some, None}
use Rattle.std.specs.declared.result.Result.{Result}
use Rattle.std.specs.declared.result.Result.TheVariants.{Ok, Err}
use Rattle.wasm_check_reports.specs.WasmValidateFiles.WasmValidatorTypes.declared.shown.Types as shown
use Rattle.wasm_check_reports.specs.WasmValidateFiles.WasmValidatorCore.declared.error.Error.{Error}
use Rattle.wasm_check_reports.specs.WasmValidateFiles.WasmValidatorCore.declared.error.Error.TheVariants.{Refused, DuplicateExport, InFunction, OutOfMemory}
use Rattle.wasm_check_reports.specs.WasmValidateFiles.declared.files.TheConstants.{STATUS_OK, STATUS_REFUSED, STATUS_TROUBLE}

module _ {A : Type 0} where
  abbrev pub status_of_error : Error A → ℕ
  status_of_error (Refused r) = STATUS_REFUSED
  status_of_error (DuplicateExport name offset) = STATUS_REFUSED
  status_of_error (InFunction index r) = STATUS_REFUSED
  status_of_error OutOfMemory = STATUS_TROUBLE

  -- the status of a file with this answer, or with none
  abbrev pub status_of : Option (Result (shown.Types A) (Error A)) → ℕ
  status_of None = STATUS_REFUSED
  status_of (Some (Ok t)) = STATUS_OK
  status_of (Some (Err e)) = status_of_error e

  -- the status of the file at this place
  abbrev pub status_at : List (Result (shown.Types A) (Error A)) → ℕ → ℕ
  status_at answers k = status_of (slice_get answers k)

  -- It is the largest status of so many files.
  pub record IsWorst (answers : List (Result (shown.Types A) (Error A))) (count status : ℕ) : Type 0 where
    pub above : (k : ℕ) → k < count → status_at answers k ≤ status
    pub some : (status ≡ STATUS_OK) ⊎ ((k : ℕ) × (k < count) × (status_at answers k ≡ status))
