use Rattle.std.proofs.Common.{refl}
use Rattle.wasm_typing_control.proofs.WasmTypingChecks.ActionSteps.{took_refused}
use Rattle.wasm_typing_blocks.proofs.BlockEntries.{enters_conditioned, condition_missing}
use Rattle.wasm_typing_blocks.proofs.blocks.open_if.Goals as goal

pub returns-in-Ok-check_type-clause-took : goal.returns-in-Ok-check_type-clause-took
returns-in-Ok-check_type-clause-took g c =
    enters_conditioned _ _ _ _ _ _ _ _ _ _ _ c.in-Ok.ensures c.number-condition.ensures c.in-Ok-check_type.ensures.0 c.open_frame.ensures.took

pub returns-in-Err-check_type-clause-took : goal.returns-in-Err-check_type-clause-took
returns-in-Err-check_type-clause-took g c =
    took_refused _ _ _ _ (condition_missing _ _ _ _ _ _ _ c.in-Ok.ensures c.number-condition.ensures c.in-Err-check_type.ensures) refl
