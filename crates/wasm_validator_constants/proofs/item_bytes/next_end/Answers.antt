use Rattle.wasm_readers.specs.WasmReadersBytes.Reader.{rest}
use Rattle.wasm_validator_constants.proofs.ItemBytes.{ends}
use Rattle.wasm_validator_constants.proofs.item_bytes.next_end.Goals as goal

pub returns-then-branch-eq11-clause-some : goal.returns-then-branch-eq11-clause-some
returns-then-branch-eq11-clause-some c = ends c.in_ok-next_u8.field-0 (rest c.args.reader.now) (rest c.next_u8.new.self) c.in_ok-next_u8.ensures.some c.if-branch-eq11.true
