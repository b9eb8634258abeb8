use Rattle.wasm_validator_states.proofs.Sequences.{one_id_for_all}
use Rattle.wasm_validator_states.proofs.one_id_for_one_type.Goals as goal

pub returns : goal.returns
returns g c = one_id_for_all
