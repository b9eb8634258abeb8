use Rattle.wasm_validator_states.proofs.UsedLaws.{used_laws}
use Rattle.wasm_validator_states.proofs.WholeModules.{decide_payloads}
use Rattle.wasm_validator_states.proofs.payloads_decide.Goals as goal

pub returns : goal.returns
returns c = decide_payloads used_laws
