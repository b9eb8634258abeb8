use Rattle.std.proofs.Common.{rules}
use Rattle.wasm_typing_control.proofs.WasmTypingChecks.ActionSteps.{needed, halting, has_held}
use Rattle.wasm_typing_blocks.proofs.ExceptionTypes.{thrown_held, thrown_typed}
use Rattle.wasm_typing_blocks.proofs.exceptions.throw.Goals as goal

pub returns-in-Ok-clause-took : goal.returns-in-Ok-clause-took
returns-in-Ok-clause-took g c =
    needed _ _ _ _ _ _ _ (has_held _ _ _ _ (search rules))
    (needed _ _ _ _ _ _ _ (thrown_held _ _ _ _ c.in-Ok.ensures.ok) (halting _ _ _ _ _ _ _ c.halt.ensures.took (thrown_typed _ _ _ _ c.in-Ok.ensures.ok)))
