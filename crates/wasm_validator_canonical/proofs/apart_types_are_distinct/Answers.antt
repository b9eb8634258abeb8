use Rattle.wasm_validator_canonical.proofs.apart_types_are_distinct.Goals as goal
use Rattle.wasm_validator_canonical.proofs.DistinctLists as apart

pub returns : goal.returns
returns c = apart.apart_types_are_distinct
