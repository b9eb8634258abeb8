use Rattle.std.proofs.Common.{rules, refl}
use Rattle.wasm_typing_steps.proofs.FusedInstructions.{variables, fused_told, tells_of}
use Rattle.wasm_typing_steps.proofs.steps.step_by_opcode.Goals as goal

pub returns-in-Ok-clause-took : goal.returns-in-Ok-clause-took
returns-in-Ok-clause-took g c = fused_told _ _ _ _ _ _ _ c.tell.ensures refl (search (rules, variables))

pub returns-in-Ok-clause-told : goal.returns-in-Ok-clause-told
returns-in-Ok-clause-told g c = tells_of _ _ _ _ 32 (search rules) c.tell.ensures refl

pub returns-in-Ok-next_index-clause-took : goal.returns-in-Ok-next_index-clause-took
returns-in-Ok-next_index-clause-took g c = fused_told _ _ _ _ _ _ _ c.tell-in-Ok-next_index.ensures refl (search (rules, variables))

pub returns-in-Ok-next_index-clause-told : goal.returns-in-Ok-next_index-clause-told
returns-in-Ok-next_index-clause-told g c = tells_of _ _ _ _ 33 (search rules) c.tell-in-Ok-next_index.ensures refl

pub returns-in-Ok-next_index-2-clause-took : goal.returns-in-Ok-next_index-2-clause-took
returns-in-Ok-next_index-2-clause-took g c = fused_told _ _ _ _ _ _ _ c.tell-in-Ok-next_index-2.ensures refl (search (rules, variables))

pub returns-in-Ok-next_index-2-clause-told : goal.returns-in-Ok-next_index-2-clause-told
returns-in-Ok-next_index-2-clause-told g c = tells_of _ _ _ _ 34 (search rules) c.tell-in-Ok-next_index-2.ensures refl

pub returns-in-Ok-next_index-3-clause-took : goal.returns-in-Ok-next_index-3-clause-took
returns-in-Ok-next_index-3-clause-took g c = fused_told _ _ _ _ _ _ _ c.tell-in-Ok-next_index-3.ensures refl (search (rules, variables))

pub returns-in-Ok-next_index-3-clause-told : goal.returns-in-Ok-next_index-3-clause-told
returns-in-Ok-next_index-3-clause-told g c = tells_of _ _ _ _ 35 (search rules) c.tell-in-Ok-next_index-3.ensures refl

pub returns-in-Ok-next_index-4-clause-took : goal.returns-in-Ok-next_index-4-clause-took
returns-in-Ok-next_index-4-clause-took g c = fused_told _ _ _ _ _ _ _ c.tell-in-Ok-next_index-4.ensures refl (search (rules, variables))

pub returns-in-Ok-next_index-4-clause-told : goal.returns-in-Ok-next_index-4-clause-told
returns-in-Ok-next_index-4-clause-told g c = tells_of _ _ _ _ 36 (search rules) c.tell-in-Ok-next_index-4.ensures refl
