use Rattle.std.proofs.Common.{rules}
use Rattle.wasm_typing_control.proofs.WasmTypingChecks.ActionSteps.{needed, halting, has_held}
use Rattle.wasm_typing_blocks.proofs.ExceptionTypes.{exception_typed}
use Rattle.wasm_typing_blocks.proofs.exceptions.throw_ref.Goals as goal

pub returns-clause-took : goal.returns-clause-took
returns-clause-took g c =
    needed _ _ _ _ _ _ _ (has_held _ _ _ _ (search rules))
    (halting _ _ _ _ _ _ _ c.halt.ensures.took (exception_typed _ _ _ c.reference.ensures))
