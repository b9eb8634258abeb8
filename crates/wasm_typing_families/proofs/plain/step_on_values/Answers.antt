use Rattle.wasm_readers.specs.WasmReadersBytes.Reader.{rest}
use Rattle.wasm_readers.specs.WrittenIndices.{written}
use Rattle.wasm_operators.specs.Instructions.{memory, plain_from, reference, table}
use Rattle.wasm_operators.specs.SeenReferences.{reference_of}
use Rattle.wasm_typing_families.proofs.SeldomSteps.{goes, stays}
use Rattle.wasm_typing_families.proofs.plain.step_on_values.Goals as goal

pub returns-in-Some-clause-took : goal.returns-in-Some-clause-took
returns-in-Some-clause-took g c =
    goes (g.T.WasmModuleResources.context c.args.resources.now) c.args.stacks.now c.step_table.new.stacks (table c.in-Some.op) c.args.front (plain_from written c.args.opcode (rest c.args.reader.now)) (rest c.next_table_access.new.reader) c.step_table.result c.as_fast.result
    c.requires.frame c.requires.at c.in-Some.ensures.some c.step_table.ensures.took c.as_fast.ensures

pub returns-in-Some-clause-left : goal.returns-in-Some-clause-left
returns-in-Some-clause-left g c = stays (g.T.WasmModuleResources.context c.args.resources.now) c.args.stacks.now c.step_table.new.stacks (table c.in-Some.op) c.step_table.result c.as_fast.result c.requires.frame c.step_table.ensures.took c.as_fast.ensures

pub returns-in-Some-next_memory_size-clause-took : goal.returns-in-Some-next_memory_size-clause-took
returns-in-Some-next_memory_size-clause-took g c =
    goes (g.T.WasmModuleResources.context c.args.resources.now) c.args.stacks.now c.bulk_memory.new.stacks (memory c.in-Some-next_memory_size.op) c.args.front (plain_from written c.args.opcode (rest c.args.reader.now)) (rest c.next_memory_size.new.reader) c.bulk_memory.result c.as_fast-in-Some-next_memory_size.result
    c.requires.frame c.requires.at c.in-Some-next_memory_size.ensures.some c.bulk_memory.ensures.took c.as_fast-in-Some-next_memory_size.ensures

pub returns-in-Some-next_memory_size-clause-left : goal.returns-in-Some-next_memory_size-clause-left
returns-in-Some-next_memory_size-clause-left g c = stays (g.T.WasmModuleResources.context c.args.resources.now) c.args.stacks.now c.bulk_memory.new.stacks (memory c.in-Some-next_memory_size.op) c.bulk_memory.result c.as_fast-in-Some-next_memory_size.result c.requires.frame c.bulk_memory.ensures.took c.as_fast-in-Some-next_memory_size.ensures

pub returns-in-Some-next_on_references-clause-left : goal.returns-in-Some-next_on_references-clause-left
returns-in-Some-next_on_references-clause-left g c = stays (g.T.WasmModuleResources.context c.args.resources.now) c.args.stacks.now c.step_reference.new.stacks (reference (reference_of c.in-Some-next_on_references.op)) c.step_reference.result c.as_fast-in-Some-next_on_references.result c.requires.frame c.step_reference.ensures.took c.as_fast-in-Some-next_on_references.ensures
