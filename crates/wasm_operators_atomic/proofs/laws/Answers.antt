use Rattle.wasm_operators_atomic.proofs.Tables.{table}
use Rattle.wasm_operators_atomic.proofs.WideNumbers.{wide_table}
use Rattle.wasm_operators_atomic.proofs.SharedTables.{shared_table}
use Rattle.wasm_operators_atomic.proofs.laws.Goals as goal

pub returns-clause-atomics : goal.returns-clause-atomics
returns-clause-atomics c = table

pub returns-clause-wide : goal.returns-clause-wide
returns-clause-wide c = wide_table

pub returns-clause-shared : goal.returns-clause-shared
returns-clause-shared c = shared_table
