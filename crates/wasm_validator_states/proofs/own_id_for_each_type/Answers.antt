use Rattle.wasm_validator_states.proofs.OwnIds.{own_id_for_each}
use Rattle.wasm_validator_states.proofs.own_id_for_each_type.Goals as goal

pub returns : goal.returns
returns g c = own_id_for_each
