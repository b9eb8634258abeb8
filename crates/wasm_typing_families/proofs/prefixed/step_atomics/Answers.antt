use Rattle.wasm_readers.specs.WasmReadersBytes.Reader.{rest}
use Rattle.wasm_readers.specs.WrittenIndices.{written}
use Rattle.wasm_operators.specs.Instructions.{atomic, atomics_from}
use Rattle.wasm_typing_families.proofs.SeldomSteps.{goes, stays}
use Rattle.wasm_typing_families.proofs.prefixed.step_atomics.Goals as goal

pub returns-in-Some-clause-took : goal.returns-in-Some-clause-took
returns-in-Some-clause-took g c =
    goes (g.T.WasmModuleResources.context c.args.resources.now) c.args.stacks.now c.step_atomic.new.stacks (atomic c.in-Some.op c.in-Some.values) c.args.front (atomics_from written c.args.code (rest c.args.reader.now)) (rest c.next_atomic.new.reader) c.step_atomic.result c.as_fast.result
    c.requires.frame c.requires.at c.in-Some.ensures.some c.step_atomic.ensures.took c.as_fast.ensures

pub returns-in-Some-clause-left : goal.returns-in-Some-clause-left
returns-in-Some-clause-left g c = stays (g.T.WasmModuleResources.context c.args.resources.now) c.args.stacks.now c.step_atomic.new.stacks (atomic c.in-Some.op c.in-Some.values) c.step_atomic.result c.as_fast.result c.requires.frame c.step_atomic.ensures.took c.as_fast.ensures
