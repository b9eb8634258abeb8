use Rattle.wasm_validator_core_resources.proofs.ListWorlds.{lists_are_seen}
use Rattle.wasm_validator_core_resources.proofs.lists_are_seen.Goals as goal

pub returns : goal.returns
returns g c = lists_are_seen
