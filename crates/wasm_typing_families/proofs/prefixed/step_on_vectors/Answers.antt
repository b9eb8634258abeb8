use Rattle.wasm_readers.specs.WasmReadersBytes.Reader.{rest}
use Rattle.wasm_readers.specs.WrittenIndices.{written}
use Rattle.wasm_operators.specs.Instructions.{constant, vector, vectors_from}
use Rattle.wasm_typing_families.proofs.SeldomSteps.{goes, stays}
use Rattle.wasm_typing_families.proofs.prefixed.step_on_vectors.Goals as goal

pub returns-in-Some-clause-took : goal.returns-in-Some-clause-took
returns-in-Some-clause-took g c =
    goes (g.T.WasmModuleResources.context c.args.resources.now) c.args.stacks.now c.constant.new.stacks (constant c.in-Some.op) c.args.front (vectors_from written c.args.code (rest c.args.reader.now)) (rest c.next_vector_constant.new.reader) c.constant.result c.as_fast.result
    c.requires.frame c.requires.at c.in-Some.ensures.some c.constant.ensures.took c.as_fast.ensures

pub returns-in-Some-clause-left : goal.returns-in-Some-clause-left
returns-in-Some-clause-left g c = stays (g.T.WasmModuleResources.context c.args.resources.now) c.args.stacks.now c.constant.new.stacks (constant c.in-Some.op) c.constant.result c.as_fast.result c.requires.frame c.constant.ensures.took c.as_fast.ensures

pub returns-in-Some-next_on_vectors-clause-took : goal.returns-in-Some-next_on_vectors-clause-took
returns-in-Some-next_on_vectors-clause-took g c =
    goes (g.T.WasmModuleResources.context c.args.resources.now) c.args.stacks.now c.step_vector.new.stacks (vector c.in-Some-next_on_vectors.op c.in-Some-next_on_vectors.values) c.args.front (vectors_from written c.args.code (rest c.args.reader.now)) (rest c.next_on_vectors.new.reader) c.step_vector.result c.as_fast-in-Some-next_on_vectors.result
    c.requires.frame c.requires.at c.in-Some-next_on_vectors.ensures.some c.step_vector.ensures.took c.as_fast-in-Some-next_on_vectors.ensures

pub returns-in-Some-next_on_vectors-clause-left : goal.returns-in-Some-next_on_vectors-clause-left
returns-in-Some-next_on_vectors-clause-left g c = stays (g.T.WasmModuleResources.context c.args.resources.now) c.args.stacks.now c.step_vector.new.stacks (vector c.in-Some-next_on_vectors.op c.in-Some-next_on_vectors.values) c.step_vector.result c.as_fast-in-Some-next_on_vectors.result c.requires.frame c.step_vector.ensures.took c.as_fast-in-Some-next_on_vectors.ensures
