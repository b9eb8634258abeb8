use Rattle.wasm_validator_handles.proofs.CallMeanings.{calls_say_of_all}
use Rattle.wasm_validator_handles.proofs.laws.calls_say_of_all.Goals as goal

pub returns : goal.returns
returns c = calls_say_of_all
