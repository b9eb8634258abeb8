use Rattle.wasm_operators_vector.proofs.Tables.{table}
use Rattle.wasm_operators_vector.proofs.laws.Goals as goal

pub returns : goal.returns
returns c = table
