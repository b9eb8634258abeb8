use Rattle.wasm_operators_vector.proofs.Entries.{entry_of}
use Rattle.wasm_operators_vector.proofs.Tables.{table}
use Rattle.wasm_operators_vector.specs.Codes.{operator_code, operator_from}
use Rattle.wasm_operators_vector.proofs.operators.operator_from_code.Goals as goal

pub returns : goal.returns
returns c = entry_of operator_code operator_from table c.args.code c.operator_with_code.result c.operator_with_code.ensures.some c.operator_with_code.ensures.none
