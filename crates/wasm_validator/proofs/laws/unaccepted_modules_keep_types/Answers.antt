use Rattle.wasm_validator.proofs.Calls.{unaccepted_modules_keep_types}
use Rattle.wasm_validator.proofs.laws.unaccepted_modules_keep_types.Goals as goal

pub returns : goal.returns
returns g c = unaccepted_modules_keep_types
