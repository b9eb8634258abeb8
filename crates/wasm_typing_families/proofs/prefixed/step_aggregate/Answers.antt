use Rattle.wasm_readers.specs.WasmReadersBytes.Reader.{rest}
use Rattle.wasm_readers.specs.WrittenIndices.{written}
use Rattle.wasm_operators.specs.Instructions.{aggregate_from, array, cast, conversion, structure}
use Rattle.wasm_operators.specs.SeenReferences.{cast_of}
use Rattle.wasm_typing_families.proofs.SeldomSteps.{goes, stays}
use Rattle.wasm_typing_families.proofs.prefixed.step_aggregate.Goals as goal

pub returns-in-Some-clause-took : goal.returns-in-Some-clause-took
returns-in-Some-clause-took g c =
    goes (g.T.WasmModuleResources.context c.args.resources.now) c.args.stacks.now c.step_struct.new.stacks (structure c.in-Some.op) c.args.front (aggregate_from written c.args.code (rest c.args.reader.now)) (rest c.next_struct.new.reader) c.step_struct.result c.as_fast.result
    c.requires.frame c.requires.at c.in-Some.ensures.some c.step_struct.ensures.took c.as_fast.ensures

pub returns-in-Some-clause-left : goal.returns-in-Some-clause-left
returns-in-Some-clause-left g c = stays (g.T.WasmModuleResources.context c.args.resources.now) c.args.stacks.now c.step_struct.new.stacks (structure c.in-Some.op) c.step_struct.result c.as_fast.result c.requires.frame c.step_struct.ensures.took c.as_fast.ensures

pub returns-in-Some-next_array-clause-took : goal.returns-in-Some-next_array-clause-took
returns-in-Some-next_array-clause-took g c =
    goes (g.T.WasmModuleResources.context c.args.resources.now) c.args.stacks.now c.step_array.new.stacks (array c.in-Some-next_array.op) c.args.front (aggregate_from written c.args.code (rest c.args.reader.now)) (rest c.next_array.new.reader) c.step_array.result c.as_fast-in-Some-next_array.result
    c.requires.frame c.requires.at c.in-Some-next_array.ensures.some c.step_array.ensures.took c.as_fast-in-Some-next_array.ensures

pub returns-in-Some-next_array-clause-left : goal.returns-in-Some-next_array-clause-left
returns-in-Some-next_array-clause-left g c = stays (g.T.WasmModuleResources.context c.args.resources.now) c.args.stacks.now c.step_array.new.stacks (array c.in-Some-next_array.op) c.step_array.result c.as_fast-in-Some-next_array.result c.requires.frame c.step_array.ensures.took c.as_fast-in-Some-next_array.ensures

pub returns-in-Some-next_cast-clause-left : goal.returns-in-Some-next_cast-clause-left
returns-in-Some-next_cast-clause-left g c = stays (g.T.WasmModuleResources.context c.args.resources.now) c.args.stacks.now c.step_cast.new.stacks (cast (cast_of c.in-Some-next_cast.op)) c.step_cast.result c.as_fast-in-Some-next_cast.result c.requires.frame c.step_cast.ensures.took c.as_fast-in-Some-next_cast.ensures

pub returns-in-Some-next_conversion-clause-took : goal.returns-in-Some-next_conversion-clause-took
returns-in-Some-next_conversion-clause-took g c =
    goes (g.T.WasmModuleResources.context c.args.resources.now) c.args.stacks.now c.step_conversion.new.stacks (conversion c.in-Some-next_conversion.op) c.args.front (aggregate_from written c.args.code (rest c.args.reader.now)) (rest c.next_conversion.new.reader) c.step_conversion.result c.as_fast-in-Some-next_conversion.result
    c.requires.frame c.requires.at c.in-Some-next_conversion.ensures.some c.step_conversion.ensures.took c.as_fast-in-Some-next_conversion.ensures

pub returns-in-Some-next_conversion-clause-left : goal.returns-in-Some-next_conversion-clause-left
returns-in-Some-next_conversion-clause-left g c = stays (g.T.WasmModuleResources.context c.args.resources.now) c.args.stacks.now c.step_conversion.new.stacks (conversion c.in-Some-next_conversion.op) c.step_conversion.result c.as_fast-in-Some-next_conversion.result c.requires.frame c.step_conversion.ensures.took c.as_fast-in-Some-next_conversion.ensures
