use Rattle.wasm_typing_fast.specs.WasmReadersBytes.Reader.{rest}
use Rattle.wasm_typing_fast.specs.WasmTypingControl.WasmTypingChecks.WasmTypingStacks.BodyStacks.{state_of}
use Rattle.wasm_typing_steps.proofs.FusedInstructions.{step_taken, is_told}
use Rattle.wasm_typing_steps.proofs.steps.next_step.Goals as goal

pub returns-in-Ok-clause-took : goal.returns-in-Ok-clause-took
returns-in-Ok-clause-took g c = λ h.
    step_taken c.args.stacks.now (g.T.WasmModuleResources.context c.args.resources.now) c.in-Ok.opcode (rest c.args.reader.now) (rest c.next_byte.new.reader) (rest c.step_by_opcode.new.reader) (state_of c.args.stacks.now)
    (state_of c.step_by_opcode.new.stacks) c.step_by_opcode.result c.if-not-stacks.false c.in-Ok.ensures.ok h c.step_by_opcode.ensures.took

pub returns-in-Ok-clause-told : goal.returns-in-Ok-clause-told
returns-in-Ok-clause-told g c = λ h.
    is_told c.step_by_opcode.result c.in-Ok.opcode (rest c.args.reader.now) (rest c.next_byte.new.reader) c.in-Ok.ensures.ok h c.step_by_opcode.ensures.told
