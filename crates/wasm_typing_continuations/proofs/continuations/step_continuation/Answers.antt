use Rattle.std.proofs.Common.{rules}
use Rattle.wasm_typing_control.proofs.WasmTypingChecks.ActionSteps.{has_held}
use Rattle.wasm_typing_continuations.proofs.StepsByOperator.{gated}
use Rattle.wasm_typing_continuations.proofs.continuations.step_continuation.Goals as goal

pub returns-clause-took : goal.returns-clause-took
returns-clause-took g c =
    gated _ _ _ _ _ _ (has_held _ _ _ _ (search rules)) (has_held _ _ _ _ (search rules)) c.perform.ensures.took
