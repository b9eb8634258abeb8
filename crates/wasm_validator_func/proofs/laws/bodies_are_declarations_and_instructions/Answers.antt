use Rattle.wasm_validator_func.proofs.BodyBytes.{finds, are_found}
use Rattle.wasm_validator_func.proofs.laws.bodies_are_declarations_and_instructions.Goals as goal

pub returns-clause-found : goal.returns-clause-found
returns-clause-found g c = finds

pub returns-clause-all : goal.returns-clause-all
returns-clause-all g c = are_found
