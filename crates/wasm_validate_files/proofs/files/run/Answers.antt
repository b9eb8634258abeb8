use Rattle.std.proofs.Common.{◌≡◌, sym, subst, refl, true, false}
use Rattle.std.specs.Prelude.{IfOk}
use Rattle.std.specs.declared.result.Result.{Result}
use Rattle.std.specs.declared.result.Result.TheVariants.{Ok}
use Rattle.std.proofs.lemmas.Bool.{false≢true}
use Rattle.wasm_readers_errors.specs.WasmReadersFeatures.declared.features.TheConstants.WasmFeatures.{STANDARD}
use Rattle.wasm_validate_files.specs.Answers.{Tells}
use Rattle.wasm_validate_files.proofs.FileStatuses.{all_read, none_unread, all_accepted, all_answered}
use Rattle.wasm_validate_files.proofs.files.run.Goals as goal

printed : {V E : Type 0} (r : Result V E) (v : V) (P : V → Type 0) → r ≡ Ok v → IfOk r P → P v
printed r v P e h = subst (λ x. IfOk x P) e h

pub returns-in-Ok-clause-accepted : goal.returns-in-Ok-clause-accepted
returns-in-Ok-clause-accepted g c = λ status.
    let says = printed c.print_lines.result true _ (c.status_of.ensures.accepted.0 status) c.print_lines.ensures in
    all_accepted STANDARD c.args.files.now c.as_slice.result.now (all_read c.args.files.now c.in_default.ensures) (subst (Tells STANDARD c.args.files.now) (sym c.as_slice.ensures.value) c.in-Ok.ensures) (says.0 refl)

pub returns-in-Ok-clause-refused : goal.returns-in-Ok-clause-refused
returns-in-Ok-clause-refused g c = λ status fits accepted.
    let says = printed c.print_lines.result false _ (c.status_of.ensures.refused.0 status) c.print_lines.ensures in
    false≢true (says.1 (all_answered STANDARD c.args.files.now c.as_slice.result.now (subst (Tells STANDARD c.args.files.now) (sym c.as_slice.ensures.value) c.in-Ok.ensures) fits accepted))

pub returns-in-Ok-clause-unread : goal.returns-in-Ok-clause-unread
returns-in-Ok-clause-unread g c = λ any. absurd (none_unread c.args.files.now c.in_default.ensures any)
