use Rattle.wasm_validator.proofs.Calls.{calls_follow_state_table}
use Rattle.wasm_validator.proofs.laws.calls_follow_state_table.Goals as goal

pub returns : goal.returns
returns g c = calls_follow_state_table
