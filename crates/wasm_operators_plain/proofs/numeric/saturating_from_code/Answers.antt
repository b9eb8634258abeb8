use Rattle.wasm_operators_plain.proofs.NumericOpcodes.{entry_of, saturating-table}
use Rattle.wasm_operators_plain.specs.Numeric.{saturating_code, saturating_from}
use Rattle.wasm_operators_plain.proofs.numeric.saturating_from_code.Goals as goal

pub returns : goal.returns
returns c = entry_of saturating_code saturating_from saturating-table c.args.code c.saturating_with_code.result c.saturating_with_code.ensures.some c.saturating_with_code.ensures.none
