use Rattle.wasm_validator_segments.proofs.ConstantBytes.{are_found}
use Rattle.wasm_validator_segments.proofs.laws.expressions_are_found.Goals as goal

pub returns : goal.returns
returns c = are_found
