use Rattle.wasm_operators_plain.proofs.NumericOpcodes.{entry_of}
use Rattle.wasm_operators_plain.proofs.AccessOpcodes.{access-table}
use Rattle.wasm_operators_plain.specs.Memories.{access_opcode, access_from}
use Rattle.wasm_operators_plain.proofs.memories.access_from_opcode.Goals as goal

pub returns : goal.returns
returns c = entry_of access_opcode access_from access-table c.args.opcode c.access_with_opcode.result c.access_with_opcode.ensures.some c.access_with_opcode.ensures.none
