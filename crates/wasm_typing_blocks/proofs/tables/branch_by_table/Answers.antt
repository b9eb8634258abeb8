use Rattle.wasm_typing_control.specs.WasmTypingChecks.WasmTypingStacks.BodyStacks.{state_of}
use Rattle.wasm_typing_control.proofs.WasmTypingChecks.ActionSteps.{took_ok}
use Rattle.wasm_typing_blocks.proofs.TableBranches.{table_is}
use Rattle.wasm_typing_blocks.proofs.tables.branch_by_table.Goals as goal

pub returns-in-Ok-check_types-clause-took : goal.returns-in-Ok-check_types-clause-took
returns-in-Ok-check_types-clause-took g c =
    took_ok _ _ _ _
    (table_is _ _ _ _ _ _ _ _ _ (state_of c.take.new.self) _ c.number-index.ensures c.in-Ok.ensures.0 c.in-Some.ensures c.count.ensures c.in-Ok-check_targets.ensures c.in-Ok-check_types.ensures.0 c.take.ensures.state c.stop.ensures.state)
