use Rattle.std.proofs.Common.{refl, ◌∙◌, ap}
use Rattle.wasm_typing_numbers.specs.WasmTypingStacks.BodyStacks.{below}
use Rattle.wasm_typing_numbers.proofs.WasmTypingChecks.ActionSteps.{took_ok, took_refused}
use Rattle.wasm_typing_control.proofs.LocalOperators.{not_put, put}
use Rattle.wasm_typing_control.proofs.locals.local_set.Goals as goal

pub returns-in-Err-clause-took : goal.returns-in-Err-clause-took
returns-in-Err-clause-took g c =
    took_refused _ _ _ _ (not_put _ _ _ c.in-Some.local _ _ c.in-Some.ensures c.ty.ensures c.in-Err.ensures) refl

pub returns-in-Ok-mark-clause-took : goal.returns-in-Ok-mark-clause-took
returns-in-Ok-mark-clause-took g c =
    took_ok _ _ _ _ (put _ _ _ _ c.in-Some.local _ _ c.in-Some.ensures c.ty.ensures c.in-Ok.ensures.0 (c.take.ensures.state ∙ ap (below c.in-Ok.taken) c.in-Ok-mark.ensures.ok))
