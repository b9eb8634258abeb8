use Rattle.wasm_readers.specs.WasmReadersBytes.Reader.{rest}
use Rattle.wasm_typing_families.specs.WasmTypingBlocks.WasmTypingChecks.WasmTypingStacks.BodyStacks.{state_of}
use Rattle.wasm_typing_validator.proofs.BranchTables.{tabled}
use Rattle.wasm_typing_validator.proofs.labels.step_by_labels.Goals as goal

pub returns-clause-took : goal.returns-clause-took
returns-clause-took g c =
    tabled c.args.stacks.now (g.T.WasmModuleResources.context c.args.resources.now) _ c.in-Some.opcode c.in-Some-next_var_u32.count c.in_ok-next_label.field-0 (rest c.args.reader.now) (rest c.next_u8.new.self) (rest c.next_var_u32.new.self)
    (rest c.pass_labels.new.reader) (rest c.next_label.new.reader) (state_of c.take.new.self) (state_of c.stop.new.self) c.if-not-stacks.false c.in-Some.ensures.some c.if-opcode-ne14.false c.number.ensures c.in_ok-peek.ensures.popped
    c.in-Some-next_var_u32.ensures.some c.in_ok-pass_labels.ensures.ok c.in_ok-next_label.ensures.read c.in_ok-next_label.ensures.empty c.take.ensures.state c.stop.ensures.state
