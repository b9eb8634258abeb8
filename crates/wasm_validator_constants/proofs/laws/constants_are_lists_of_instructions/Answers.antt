use Rattle.wasm_validator_constants.proofs.ExpressionBytes.{finds, are_found}
use Rattle.wasm_validator_constants.proofs.laws.constants_are_lists_of_instructions.Goals as goal

pub returns-clause-found : goal.returns-clause-found
returns-clause-found g c = finds

pub returns-clause-all : goal.returns-clause-all
returns-clause-all g c = are_found
