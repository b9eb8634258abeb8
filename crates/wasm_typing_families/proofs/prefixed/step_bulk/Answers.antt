use Rattle.std.proofs.Common.{subst}
use Rattle.wasm_readers.specs.WasmReadersBytes.Reader.{rest}
use Rattle.wasm_readers.specs.WrittenIndices.{written}
use Rattle.wasm_operators.specs.Instructions.{bulk_from, memory, saturating, table}
use Rattle.wasm_operators.specs.WasmOperatorsPlain.declared.signatures.Signature.{Signature}
use Rattle.wasm_typing_blocks.specs.WasmTypingChecks.WasmSpecSteps.Shapes.{computing}
use Rattle.wasm_typing_blocks.specs.WasmTypingChecks.Steps.{Performs}
use Rattle.wasm_typing_families.proofs.SeldomSteps.{goes, stays}
use Rattle.wasm_typing_families.proofs.prefixed.step_bulk.Goals as goal

pub returns-in-Some-clause-took : goal.returns-in-Some-clause-took
returns-in-Some-clause-took g c =
    goes (g.T.WasmModuleResources.context c.args.resources.now) c.args.stacks.now c.compute.new.stacks (saturating c.in-Some.op) c.args.front (bulk_from written c.args.code (rest c.args.reader.now)) (rest c.next_saturating.new.reader) c.compute.result c.as_fast.result
    c.requires.frame c.requires.at c.in-Some.ensures.some (subst (λ (s : Signature). Performs c.compute.result (g.T.WasmModuleResources.context c.args.resources.now) (computing s) c.args.stacks.now c.compute.new.stacks) c.saturating_signature.ensures c.compute.ensures.took) c.as_fast.ensures

pub returns-in-Some-clause-left : goal.returns-in-Some-clause-left
returns-in-Some-clause-left g c = stays (g.T.WasmModuleResources.context c.args.resources.now) c.args.stacks.now c.compute.new.stacks (saturating c.in-Some.op) c.compute.result c.as_fast.result c.requires.frame (subst (λ (s : Signature). Performs c.compute.result (g.T.WasmModuleResources.context c.args.resources.now) (computing s) c.args.stacks.now c.compute.new.stacks) c.saturating_signature.ensures c.compute.ensures.took) c.as_fast.ensures

pub returns-in-Some-next_on_memories-clause-took : goal.returns-in-Some-next_on_memories-clause-took
returns-in-Some-next_on_memories-clause-took g c =
    goes (g.T.WasmModuleResources.context c.args.resources.now) c.args.stacks.now c.bulk_memory.new.stacks (memory c.in-Some-next_on_memories.op) c.args.front (bulk_from written c.args.code (rest c.args.reader.now)) (rest c.next_on_memories.new.reader) c.bulk_memory.result c.as_fast-in-Some-next_on_memories.result
    c.requires.frame c.requires.at c.in-Some-next_on_memories.ensures.some c.bulk_memory.ensures.took c.as_fast-in-Some-next_on_memories.ensures

pub returns-in-Some-next_on_memories-clause-left : goal.returns-in-Some-next_on_memories-clause-left
returns-in-Some-next_on_memories-clause-left g c = stays (g.T.WasmModuleResources.context c.args.resources.now) c.args.stacks.now c.bulk_memory.new.stacks (memory c.in-Some-next_on_memories.op) c.bulk_memory.result c.as_fast-in-Some-next_on_memories.result c.requires.frame c.bulk_memory.ensures.took c.as_fast-in-Some-next_on_memories.ensures

pub returns-in-Some-next_on_tables-clause-took : goal.returns-in-Some-next_on_tables-clause-took
returns-in-Some-next_on_tables-clause-took g c =
    goes (g.T.WasmModuleResources.context c.args.resources.now) c.args.stacks.now c.step_table.new.stacks (table c.in-Some-next_on_tables.op) c.args.front (bulk_from written c.args.code (rest c.args.reader.now)) (rest c.next_on_tables.new.reader) c.step_table.result c.as_fast-in-Some-next_on_tables.result
    c.requires.frame c.requires.at c.in-Some-next_on_tables.ensures.some c.step_table.ensures.took c.as_fast-in-Some-next_on_tables.ensures

pub returns-in-Some-next_on_tables-clause-left : goal.returns-in-Some-next_on_tables-clause-left
returns-in-Some-next_on_tables-clause-left g c = stays (g.T.WasmModuleResources.context c.args.resources.now) c.args.stacks.now c.step_table.new.stacks (table c.in-Some-next_on_tables.op) c.step_table.result c.as_fast-in-Some-next_on_tables.result c.requires.frame c.step_table.ensures.took c.as_fast-in-Some-next_on_tables.ensures
