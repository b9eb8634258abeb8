use Rattle.wasm_readers.specs.WasmReadersBytes.Reader.{rest}
use Rattle.wasm_validator_constants.proofs.ItemBytes.{function_written}
use Rattle.wasm_validator_constants.proofs.item_bytes.next_function.Goals as goal

pub returns-clause-some : goal.returns-clause-some
returns-clause-some c =
    function_written c.in_ok-next_u8.field-0 c.in_ok-function_index.function_index (rest c.args.reader.now) (rest c.next_u8.new.self) (rest c.next_var_u32.new.self) (rest c.next_end.new.reader)
    c.in_ok-next_u8.ensures.some c.if-branch-ne210.false c.in_ok-function_index.ensures.some c.in_ok-next_end.ensures.some
