use Rattle.wasm_validator.proofs.Limits.{constants_are_limits}
use Rattle.wasm_validator.proofs.laws.constants_are_limits.Goals as goal

pub returns : goal.returns
returns c = constants_are_limits
