use Rattle.wasm_typing_numbers.proofs.WasmTypingChecks.ActionSteps.{halting}
use Rattle.wasm_typing_numbers.proofs.WasmTypingChecks.TypeLookups.{nothing_typed}
use Rattle.wasm_typing_control.proofs.branches.trap.Goals as goal

pub returns-clause-took : goal.returns-clause-took
returns-clause-took g c =
    halting _ _ _ _ _ _ _ c.halt.ensures.took (nothing_typed _ _)
