use Rattle.wasm_operators_vector.proofs.Entries.{entry_of}
use Rattle.wasm_operators_atomic.proofs.SharedTables.{shared_table}
use Rattle.wasm_operators_atomic.specs.SharedCodes.{shared_code, shared_operator_from}
use Rattle.wasm_operators_atomic.proofs.shared.shared_operator_from_code.Goals as goal

pub returns : goal.returns
returns c = entry_of shared_code shared_operator_from shared_table c.args.code c.shared_operator_with_code.result c.shared_operator_with_code.ensures.some c.shared_operator_with_code.ensures.none
