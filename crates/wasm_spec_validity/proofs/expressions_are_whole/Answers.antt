use Rattle.wasm_spec_validity.proofs.WholeExpressions.{expressions_are_whole}
use Rattle.wasm_spec_validity.proofs.expressions_are_whole.Goals as goal

pub returns : goal.returns
returns g c = record { whole = expressions_are_whole }
