use Rattle.std.proofs.Common.{rules}
use Rattle.wasm_typing_references.proofs.WasmTypingChecks.ActionSteps.{needed, has_held}
use Rattle.wasm_typing_casts.proofs.conversions.ref_i31_shared.Goals as goal

pub returns-clause-took : goal.returns-clause-took
returns-clause-took g c =
    needed _ _ _ _ _ _ _ (has_held _ _ _ _ (search rules)) c.box_integer.ensures.took
