use Rattle.wasm_operators_plain.proofs.NumericOpcodes.{entry_of, numeric-table}
use Rattle.wasm_operators_plain.specs.Numeric.{numeric_opcode, numeric_from}
use Rattle.wasm_operators_plain.proofs.numeric.numeric_from_opcode.Goals as goal

pub returns : goal.returns
returns c = entry_of numeric_opcode numeric_from numeric-table c.args.opcode c.numeric_with_opcode.result c.numeric_with_opcode.ensures.some c.numeric_with_opcode.ensures.none
