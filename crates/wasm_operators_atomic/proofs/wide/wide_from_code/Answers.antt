use Rattle.wasm_operators_vector.proofs.Entries.{entry_of}
use Rattle.wasm_operators_atomic.proofs.WideNumbers.{wide_table}
use Rattle.wasm_operators_atomic.specs.WideArithmetic.{wide_code, wide_from}
use Rattle.wasm_operators_atomic.proofs.wide.wide_from_code.Goals as goal

pub returns : goal.returns
returns c = entry_of wide_code wide_from wide_table c.args.code c.wide_with_code.result c.wide_with_code.ensures.some c.wide_with_code.ensures.none
