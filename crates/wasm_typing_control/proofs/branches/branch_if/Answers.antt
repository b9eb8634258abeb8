use Rattle.wasm_typing_numbers.proofs.WasmTypingChecks.ActionSteps.{plainly}
use Rattle.wasm_typing_numbers.proofs.WasmTypingChecks.TypeLookups.{both_typed, i32_typed}
use Rattle.wasm_typing_control.proofs.branches.branch_if.Goals as goal

pub returns-in-Some-clause-took : goal.returns-in-Some-clause-took
returns-in-Some-clause-took g c =
    plainly _ _ _ _ _ _ _ _ _ c.plain_with.ensures.took (both_typed _ _ _ _ _ _ c.in-Some.ensures (i32_typed _ _ _ c.number-condition.ensures)) c.in-Some.ensures
