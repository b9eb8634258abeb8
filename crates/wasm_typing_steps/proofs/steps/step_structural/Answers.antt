use Rattle.std.proofs.Common.{rules, refl}
use Rattle.wasm_typing_steps.proofs.FusedInstructions.{structures, fused_told, tells_of}
use Rattle.wasm_typing_steps.proofs.steps.step_structural.Goals as goal

pub returns-in-0-clause-took : goal.returns-in-0-clause-took
returns-in-0-clause-took g c = fused_told _ _ _ _ _ _ _ c.tell.ensures refl (search (rules, structures))

pub returns-in-0-clause-told : goal.returns-in-0-clause-told
returns-in-0-clause-told g c = tells_of _ _ _ _ 0 (search rules) c.tell.ensures refl

pub returns-in-1-clause-took : goal.returns-in-1-clause-took
returns-in-1-clause-took g c = fused_told _ _ _ _ _ _ _ c.tell-in-1.ensures refl (search (rules, structures))

pub returns-in-1-clause-told : goal.returns-in-1-clause-told
returns-in-1-clause-told g c = tells_of _ _ _ _ 1 (search rules) c.tell-in-1.ensures refl

pub returns-in-Ok-clause-took : goal.returns-in-Ok-clause-took
returns-in-Ok-clause-took g c = fused_told _ _ _ _ _ _ _ c.tell-in-Ok.ensures refl (search (rules, structures))

pub returns-in-Ok-clause-told : goal.returns-in-Ok-clause-told
returns-in-Ok-clause-told g c = tells_of _ _ _ _ 2 (search rules) c.tell-in-Ok.ensures refl

pub returns-in-Ok-next_block-clause-took : goal.returns-in-Ok-next_block-clause-took
returns-in-Ok-next_block-clause-took g c = fused_told _ _ _ _ _ _ _ c.tell-in-Ok-next_block.ensures refl (search (rules, structures))

pub returns-in-Ok-next_block-clause-told : goal.returns-in-Ok-next_block-clause-told
returns-in-Ok-next_block-clause-told g c = tells_of _ _ _ _ 3 (search rules) c.tell-in-Ok-next_block.ensures refl

pub returns-in-Ok-next_block-2-clause-took : goal.returns-in-Ok-next_block-2-clause-took
returns-in-Ok-next_block-2-clause-took g c = fused_told _ _ _ _ _ _ _ c.tell-in-Ok-next_block-2.ensures refl (search (rules, structures))

pub returns-in-Ok-next_block-2-clause-told : goal.returns-in-Ok-next_block-2-clause-told
returns-in-Ok-next_block-2-clause-told g c = tells_of _ _ _ _ 4 (search rules) c.tell-in-Ok-next_block-2.ensures refl

pub returns-in-11-clause-took : goal.returns-in-11-clause-took
returns-in-11-clause-took g c = fused_told _ _ _ _ _ _ _ c.tell-in-11.ensures refl (search (rules, structures))

pub returns-in-11-clause-told : goal.returns-in-11-clause-told
returns-in-11-clause-told g c = tells_of _ _ _ _ 11 (search rules) c.tell-in-11.ensures refl

pub returns-in-Ok-next_index-clause-took : goal.returns-in-Ok-next_index-clause-took
returns-in-Ok-next_index-clause-took g c = fused_told _ _ _ _ _ _ _ c.tell-in-Ok-next_index.ensures refl (search (rules, structures))

pub returns-in-Ok-next_index-clause-told : goal.returns-in-Ok-next_index-clause-told
returns-in-Ok-next_index-clause-told g c = tells_of _ _ _ _ 12 (search rules) c.tell-in-Ok-next_index.ensures refl

pub returns-in-Ok-next_index-2-clause-took : goal.returns-in-Ok-next_index-2-clause-took
returns-in-Ok-next_index-2-clause-took g c = fused_told _ _ _ _ _ _ _ c.tell-in-Ok-next_index-2.ensures refl (search (rules, structures))

pub returns-in-Ok-next_index-2-clause-told : goal.returns-in-Ok-next_index-2-clause-told
returns-in-Ok-next_index-2-clause-told g c = tells_of _ _ _ _ 13 (search rules) c.tell-in-Ok-next_index-2.ensures refl

pub returns-in-15-clause-took : goal.returns-in-15-clause-took
returns-in-15-clause-took g c = fused_told _ _ _ _ _ _ _ c.tell-in-15.ensures refl (search (rules, structures))

pub returns-in-15-clause-told : goal.returns-in-15-clause-told
returns-in-15-clause-told g c = tells_of _ _ _ _ 15 (search rules) c.tell-in-15.ensures refl

pub returns-in-Ok-next_index-3-clause-took : goal.returns-in-Ok-next_index-3-clause-took
returns-in-Ok-next_index-3-clause-took g c = fused_told _ _ _ _ _ _ _ c.tell-in-Ok-next_index-3.ensures refl (search (rules, structures))

pub returns-in-Ok-next_index-3-clause-told : goal.returns-in-Ok-next_index-3-clause-told
returns-in-Ok-next_index-3-clause-told g c = tells_of _ _ _ _ 16 (search rules) c.tell-in-Ok-next_index-3.ensures refl

pub returns-in-26-clause-took : goal.returns-in-26-clause-took
returns-in-26-clause-took g c = fused_told _ _ _ _ _ _ _ c.tell-in-26.ensures refl (search (rules, structures))

pub returns-in-26-clause-told : goal.returns-in-26-clause-told
returns-in-26-clause-told g c = tells_of _ _ _ _ 26 (search rules) c.tell-in-26.ensures refl

pub returns-in-27-clause-took : goal.returns-in-27-clause-took
returns-in-27-clause-took g c = fused_told _ _ _ _ _ _ _ c.tell-in-27.ensures refl (search (rules, structures))

pub returns-in-27-clause-told : goal.returns-in-27-clause-told
returns-in-27-clause-told g c = tells_of _ _ _ _ 27 (search rules) c.tell-in-27.ensures refl

pub returns-in-Ok-pass_i32-clause-took : goal.returns-in-Ok-pass_i32-clause-took
returns-in-Ok-pass_i32-clause-took g c = fused_told _ _ _ _ _ _ _ c.tell-in-Ok-pass_i32.ensures refl (search (rules, structures))

pub returns-in-Ok-pass_i32-clause-told : goal.returns-in-Ok-pass_i32-clause-told
returns-in-Ok-pass_i32-clause-told g c = tells_of _ _ _ _ 65 (search rules) c.tell-in-Ok-pass_i32.ensures refl

pub returns-in-Ok-pass_i64-clause-took : goal.returns-in-Ok-pass_i64-clause-took
returns-in-Ok-pass_i64-clause-took g c = fused_told _ _ _ _ _ _ _ c.tell-in-Ok-pass_i64.ensures refl (search (rules, structures))

pub returns-in-Ok-pass_i64-clause-told : goal.returns-in-Ok-pass_i64-clause-told
returns-in-Ok-pass_i64-clause-told g c = tells_of _ _ _ _ 66 (search rules) c.tell-in-Ok-pass_i64.ensures refl

pub returns-in-Some-clause-took : goal.returns-in-Some-clause-took
returns-in-Some-clause-took g c = fused_told _ _ _ _ _ _ _ c.tell-in-Some.ensures refl (search (rules, structures))

pub returns-in-Some-clause-told : goal.returns-in-Some-clause-told
returns-in-Some-clause-told g c = tells_of _ _ _ _ 67 (search rules) c.tell-in-Some.ensures refl

pub returns-in-Some-next_bits_64-clause-took : goal.returns-in-Some-next_bits_64-clause-took
returns-in-Some-next_bits_64-clause-took g c = fused_told _ _ _ _ _ _ _ c.tell-in-Some-next_bits_64.ensures refl (search (rules, structures))

pub returns-in-Some-next_bits_64-clause-told : goal.returns-in-Some-next_bits_64-clause-told
returns-in-Some-next_bits_64-clause-told g c = tells_of _ _ _ _ 68 (search rules) c.tell-in-Some-next_bits_64.ensures refl

pub returns-in_default-clause-took : goal.returns-in_default-clause-took
returns-in_default-clause-took g c = fused_told _ _ _ _ _ _ _ c.tell-in_default.ensures refl c.step_by_table.ensures.took
