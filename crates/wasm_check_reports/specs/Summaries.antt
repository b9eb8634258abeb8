-- How many files ended in which way.
use Rattle.std.specs.Prelude.{ℕ, zero, suc, ◌+◌, min, slice_get, Option, Some, None, List, [], ◌∷◌, ◌++◌, codes, decimal}
use Rattle.std.specs.declared.result.Result.{Result}
use Rattle.std.specs.declared.result.Result.TheVariants.{Ok, Err}
use Rattle.wasm_validate_files.specs.WasmValidatorTypes.declared.shown.Types as shown
use Rattle.wasm_validate_files.specs.WasmValidatorCore.declared.error.Error.{Error}
use Rattle.wasm_validate_files.specs.WasmValidatorCore.declared.error.Error.TheVariants.{Refused, DuplicateExport, InFunction, OutOfMemory}
use Rattle.wasm_check_reports.specs.declared.summary.Summary.{Summary}

-- one more, as far as 64 bits count
abbrev pub one_more : ℕ → ℕ
one_more n = min (n + 1) 0xFFFF_FFFF_FFFF_FFFF

module _ {A : Type 0} where
  -- with one more file that ended by this error
  abbrev pub with_error : Summary → Error A → Summary
  with_error s (Refused r) = record s { invalid = one_more s.invalid }
  with_error s (DuplicateExport name offset) = record s { invalid = one_more s.invalid }
  with_error s (InFunction index r) = record s { invalid = one_more s.invalid }
  with_error s OutOfMemory = record s { failed = one_more s.failed }

  -- with one more file that was read, which has this answer if it was checked
  abbrev pub with_answer : Summary → Option (Result (shown.Types A) (Error A)) → Summary
  with_answer s None = record s { not_checked = one_more s.not_checked }
  with_answer s (Some (Ok t)) = record s { valid = one_more s.valid }
  with_answer s (Some (Err e)) = with_error s e

  -- with so many files more that were read, each with the answer at its place, if there is one
  abbrev pub with_answers : Summary → List (Result (shown.Types A) (Error A)) → ℕ → Summary
  with_answers s answers zero = s
  with_answers s answers (suc k) = with_answer (with_answers s answers k) (slice_get answers k)

-- the line that says how many files ended in which way
abbrev pub summary_line : Summary → List ℕ
summary_line s = decimal s.valid ++ (codes " valid, " ++ (decimal s.invalid ++ (codes " invalid, " ++ (decimal s.not_checked ++ (codes " not checked, " ++ (decimal s.failed ++ (codes " failed" ++ 10 ∷ [])))))))
