use Rattle.std.proofs.Common.{arith}
use Rattle.wasm_readers.specs.WasmReadersBytes.Reader.{rest}
use Rattle.wasm_validator_segments.proofs.PlainSegments.{plain}
use Rattle.wasm_validator_segments.proofs.plain.next_plain_segment.Goals as goal

pub returns-clause-some : goal.returns-clause-some
returns-clause-some g c =
    plain (g.T.WasmModuleResources.context c.args.resources.now) c.in_ok-next_var_u32.field-0 c.in_ok-count.count
    (rest c.args.reader.now) (rest c.next_var_u32.new.self) (rest c.next_number.new.reader) (rest c.next_var_u32-2.new.self)
    c.in_ok-next_var_u32.ensures.some c.if-branch-ne0.false c.in_ok-next_number.ensures.some c.in_ok-next_number.ensures.named c.in_ok-count.ensures.some (omega arith)
    (c.takes_functions.ensures c.if-not-takes_functions.false)
