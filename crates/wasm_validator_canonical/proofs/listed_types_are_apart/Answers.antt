use Rattle.wasm_validator_canonical.proofs.listed_types_are_apart.Goals as goal
use Rattle.wasm_validator_canonical.proofs.DistinctLists as apart

pub returns : goal.returns
returns g c = apart.listed_types_are_apart
