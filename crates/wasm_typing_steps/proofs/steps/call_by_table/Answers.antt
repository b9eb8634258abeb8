use Rattle.std.proofs.Common.{rules, refl}
use Rattle.wasm_typing_steps.proofs.FusedInstructions.{structures, fused_told, tells_of}
use Rattle.wasm_typing_steps.proofs.steps.call_by_table.Goals as goal

pub returns-clause-took : goal.returns-clause-took
returns-clause-took g c = fused_told _ _ _ _ _ _ _ c.tell.ensures refl (search (rules, structures))

pub returns-clause-told : goal.returns-clause-told
returns-clause-told g c = tells_of _ _ _ _ 17 (search rules) c.tell.ensures refl
