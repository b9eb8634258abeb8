use Rattle.wasm_laws_sections.proofs.ReachedStates.{reached_states_are_read as are_read}
use Rattle.wasm_laws_sections.proofs.reached_states_are_read.Goals as goal

pub returns : goal.returns
returns c = are_read
