use Rattle.wasm_readers.specs.WasmReadersBytes.Reader.{rest}
use Rattle.wasm_readers.specs.WrittenIndices.{written}
use Rattle.wasm_operators.specs.Instructions.{call, parametric, plain_from, variable}
use Rattle.wasm_operators.specs.SeenControl.{parametric_of}
use Rattle.wasm_typing_families.proofs.SeldomSteps.{goes, stays}
use Rattle.wasm_typing_families.proofs.plain.step_on_operands.Goals as goal

pub returns-in-Some-clause-took : goal.returns-in-Some-clause-took
returns-in-Some-clause-took g c =
    goes (g.T.WasmModuleResources.context c.args.resources.now) c.args.stacks.now c.step_call.new.stacks (call c.in-Some.op) c.args.front (plain_from written c.args.opcode (rest c.args.reader.now)) (rest c.next_call.new.reader) c.step_call.result c.as_fast.result
    c.requires.frame c.requires.at c.in-Some.ensures.some c.step_call.ensures.took c.as_fast.ensures

pub returns-in-Some-clause-left : goal.returns-in-Some-clause-left
returns-in-Some-clause-left g c = stays (g.T.WasmModuleResources.context c.args.resources.now) c.args.stacks.now c.step_call.new.stacks (call c.in-Some.op) c.step_call.result c.as_fast.result c.requires.frame c.step_call.ensures.took c.as_fast.ensures

pub returns-in-Some-next_select-clause-left : goal.returns-in-Some-next_select-clause-left
returns-in-Some-next_select-clause-left g c = stays (g.T.WasmModuleResources.context c.args.resources.now) c.args.stacks.now c.step_parametric.new.stacks (parametric (parametric_of c.in-Some-next_select.op)) c.step_parametric.result c.as_fast-in-Some-next_select.result c.requires.frame c.step_parametric.ensures.took c.as_fast-in-Some-next_select.ensures

pub returns-in-Some-next_write-clause-took : goal.returns-in-Some-next_write-clause-took
returns-in-Some-next_write-clause-took g c =
    goes (g.T.WasmModuleResources.context c.args.resources.now) c.args.stacks.now c.step_variable.new.stacks (variable c.in-Some-next_write.op) c.args.front (plain_from written c.args.opcode (rest c.args.reader.now)) (rest c.next_write.new.reader) c.step_variable.result c.as_fast-in-Some-next_write.result
    c.requires.frame c.requires.at c.in-Some-next_write.ensures.some c.step_variable.ensures.took c.as_fast-in-Some-next_write.ensures

pub returns-in-Some-next_write-clause-left : goal.returns-in-Some-next_write-clause-left
returns-in-Some-next_write-clause-left g c = stays (g.T.WasmModuleResources.context c.args.resources.now) c.args.stacks.now c.step_variable.new.stacks (variable c.in-Some-next_write.op) c.step_variable.result c.as_fast-in-Some-next_write.result c.requires.frame c.step_variable.ensures.took c.as_fast-in-Some-next_write.ensures
