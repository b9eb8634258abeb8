use Rattle.std.proofs.Common.{refl, ◌∙◌, ap}
use Rattle.wasm_typing_numbers.specs.WasmSpecSteps.Machine.{push_operand}
use Rattle.wasm_typing_numbers.specs.WasmTypingStacks.BodyStacks.{state_of, below}
use Rattle.wasm_typing_numbers.proofs.WasmTypingChecks.ActionSteps.{took_ok, took_refused}
use Rattle.wasm_typing_control.proofs.LocalOperators.{not_put, given_back}
use Rattle.wasm_typing_control.proofs.locals.local_tee.Goals as goal

pub returns-in-Err-clause-took : goal.returns-in-Err-clause-took
returns-in-Err-clause-took g c =
    took_refused _ _ _ _ (not_put _ _ _ c.in-Some.local _ _ c.in-Some.ensures c.ty.ensures c.in-Err.ensures) refl

pub returns-in-Ok-exchange-clause-took : goal.returns-in-Ok-exchange-clause-took
returns-in-Ok-exchange-clause-took g c =
    took_ok _ _ _ _ (given_back _ _ _ _ c.in-Some.local _ _ _ _ c.in-Some.ensures c.ty.ensures c.ty-in-Ok-mark.ensures c.in-Ok.ensures.0 c.in-Ok-mark.ensures.ok
    (c.in-Ok-exchange.ensures.ok ∙ ap (λ o. push_operand o (below c.in-Ok.taken (state_of c.mark.new.stacks))) c.known.ensures))
