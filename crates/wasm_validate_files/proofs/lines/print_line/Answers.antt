use Rattle.std.proofs.Common.{ℕ, ◌≡◌, List, slice_get, Some, None, refl, ap, ◌∙◌, false, IsTrue}
use Rattle.std.specs.declared.result.Result.{Result}
use Rattle.std.specs.declared.result.Result.TheVariants.{Err}
use Rattle.std.proofs.lemmas.Bool.{false≢true}
use Rattle.std.proofs.lemmas.Option.{slice_get_read, slice_get_past}
use Rattle.wasm_validator.specs.WasmValidatorTypes.declared.shown.Types as shown
use Rattle.wasm_validator.specs.WasmValidatorCore.declared.error.Error.{Error}
use Rattle.wasm_validate_files.specs.Answers.{IsOkAt}
use Rattle.wasm_validate_files.proofs.lines.print_line.Goals as goal

not_refused : {A : Type 0} (answers : List (Result (shown.Types A) (Error A))) (k : ℕ) (e : Error A) → slice_get answers k ≡ Some (Err e) → IsOkAt answers k → IsTrue false
not_refused answers k e r ok = let a = ok.1 in cc

not_unchecked : {A : Type 0} (answers : List (Result (shown.Types A) (Error A))) (k : ℕ) → slice_get answers k ≡ None → IsOkAt answers k → IsTrue false
not_unchecked answers k r ok = let a = ok.1 in cc

pub returns-in_ok-print_ok-in-Some-Ok : goal.returns-in_ok-print_ok-in-Some-Ok
returns-in_ok-print_ok-in-Some-Ok g c =
    let at = c.in-Some-Ok.ensures.lookup in
    (λ h. (c.in-Some-Ok.types, slice_get_read c.args.answers.now _ c.args.place c.in-Some-Ok.field-0.now refl at.3.0 at.1 ∙ ap Some c.in-Some-Ok.field-0-is), λ h. refl)

pub returns-in_ok-print_refused-in-Some-Err : goal.returns-in_ok-print_refused-in-Some-Err
returns-in_ok-print_refused-in-Some-Err g c =
    let at = c.in-Some-Err.ensures.lookup in (
      λ h. absurd (false≢true h),
      not_refused c.args.answers.now c.args.place c.in-Some-Err.error
          (slice_get_read c.args.answers.now _ c.args.place c.in-Some-Err.field-0.now refl at.3.0 at.1 ∙ ap Some c.in-Some-Err.field-0-is),
    )

pub returns-in_ok-writeln-in-None : goal.returns-in_ok-writeln-in-None
returns-in_ok-writeln-in-None g c = (λ h. absurd (false≢true h), not_unchecked c.args.answers.now c.args.place (slice_get_past c.args.answers.now c.args.place c.in-None.ensures.lookup.3))
