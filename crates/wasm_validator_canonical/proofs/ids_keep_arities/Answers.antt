use Rattle.wasm_validator_canonical.proofs.ids_keep_arities.Goals as goal
use Rattle.wasm_validator_canonical.proofs.Arities as arities

pub returns : goal.returns
returns c = arities.ids_keep_arities
