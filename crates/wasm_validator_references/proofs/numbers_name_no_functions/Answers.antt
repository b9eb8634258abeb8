use Rattle.wasm_validator_references.proofs.Constants.{numbers_name_no_functions}
use Rattle.wasm_validator_references.proofs.numbers_name_no_functions.Goals as goal

pub returns : goal.returns
returns g c = record { names = numbers_name_no_functions }
