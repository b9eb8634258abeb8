use Rattle.wasm_operators_plain.proofs.AccessOpcodes.{access-table}
use Rattle.wasm_operators_plain.proofs.accesses_are_a_table.Goals as goal

pub returns : goal.returns
returns c = access-table
