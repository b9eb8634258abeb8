use Rattle.wasm_typing_numbers.proofs.WasmTypingChecks.ActionSteps.{took_ok}
use Rattle.wasm_typing_control.proofs.LocalOperators.{dropped}
use Rattle.wasm_typing_control.proofs.locals.drop_any.Goals as goal

pub returns-in-Some-clause-took : goal.returns-in-Some-clause-took
returns-in-Some-clause-took g c =
    took_ok _ _ _ _ (dropped _ _ _ _ _ c.in-Some.ensures.0 c.take.ensures.state)
