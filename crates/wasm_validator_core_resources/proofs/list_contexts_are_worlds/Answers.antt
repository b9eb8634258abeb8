use Rattle.wasm_validator_core_resources.proofs.ListWorlds.{list_contexts_are_worlds}
use Rattle.wasm_validator_core_resources.proofs.list_contexts_are_worlds.Goals as goal

pub returns : goal.returns
returns g c = list_contexts_are_worlds
