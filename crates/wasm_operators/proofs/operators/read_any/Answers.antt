use Rattle.wasm_operators.proofs.Prefixes.{no_operator}
use Rattle.wasm_operators_proposals.specs.WasmOperatorsPlain.WasmReaders.WasmReadersBytes.Reader.{rest}
use Rattle.wasm_operators.proofs.operators.read_any.Goals as goal

pub returns-then-opcode-clause-err : goal.returns-then-opcode-clause-err
returns-then-opcode-clause-err c = no_operator (rest c.args.reader.now) c.in_ok-opcode.opcode c.in_ok-opcode.ensures.ok c.if-opcode.true
