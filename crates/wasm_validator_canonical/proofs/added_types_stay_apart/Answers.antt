use Rattle.wasm_validator_canonical.proofs.added_types_stay_apart.Goals as goal
use Rattle.wasm_validator_canonical.proofs.DistinctLists as apart

pub returns : goal.returns
returns c = apart.added_types_stay_apart
