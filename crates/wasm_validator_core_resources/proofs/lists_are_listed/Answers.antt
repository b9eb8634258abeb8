use Rattle.wasm_validator_core_resources.proofs.IdReferences.{lists_are_listed}
use Rattle.wasm_validator_core_resources.proofs.lists_are_listed.Goals as goal

pub returns : goal.returns
returns g c = lists_are_listed
