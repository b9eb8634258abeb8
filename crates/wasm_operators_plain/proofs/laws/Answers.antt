use Rattle.wasm_operators_plain.proofs.NumericOpcodes.{numeric-table, saturating-table}
use Rattle.wasm_operators_plain.proofs.OpcodeSignatures.{signatures-by_opcode}
use Rattle.wasm_operators_plain.proofs.laws.Goals as goal

pub returns-clause-numeric : goal.returns-clause-numeric
returns-clause-numeric c = numeric-table

pub returns-clause-saturating : goal.returns-clause-saturating
returns-clause-saturating c = saturating-table

pub returns-clause-signatures : goal.returns-clause-signatures
returns-clause-signatures c = signatures-by_opcode
