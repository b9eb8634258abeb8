use Rattle.wasm_typing_control.proofs.WasmTypingChecks.ActionSteps.{needed}
use Rattle.wasm_typing_blocks.proofs.ExceptionTypes.{thrown_held, thrown_typed}
use Rattle.wasm_typing_blocks.proofs.ElseAndCatch.{catches_with}
use Rattle.wasm_typing_blocks.proofs.legacy.catch.Goals as goal

pub returns-in-Ok-clause-took : goal.returns-in-Ok-clause-took
returns-in-Ok-clause-took g c =
    needed _ _ _ _ _ _ _ (thrown_held _ _ _ _ c.in-Ok.ensures.ok)
    (catches_with _ _ _ _ _ _ _ _ (thrown_typed _ _ _ _ c.in-Ok.ensures.ok) c.catch_with.ensures.took)
