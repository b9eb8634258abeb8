use Rattle.wasm_readers.specs.WasmReadersBytes.Reader.{rest}
use Rattle.wasm_readers.specs.WrittenIndices.{written}
use Rattle.wasm_operators.specs.Instructions.{control, plain_from}
use Rattle.wasm_operators.specs.SeenControl.{control_of}
use Rattle.wasm_typing_families.proofs.SeldomSteps.{stays, written_control}
use Rattle.wasm_typing_families.proofs.plain.step_on_blocks.Goals as goal

pub step_control-requires : goal.step_control-requires
step_control-requires g c =
    written_control c.args.front (plain_from written c.args.opcode (rest c.args.reader.now)) (rest c.next_control.new.reader) (control_of c.in-Some.op) c.requires.at c.in-Some.ensures.some

pub returns-in-Some-clause-left : goal.returns-in-Some-clause-left
returns-in-Some-clause-left g c = stays (g.T.WasmModuleResources.context c.args.resources.now) c.args.stacks.now c.step_control.new.stacks (control (control_of c.in-Some.op)) c.step_control.result c.as_fast.result c.requires.frame c.step_control.ensures.took c.as_fast.ensures
