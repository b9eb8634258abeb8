use Rattle.wasm_validator_checks.proofs.laws.functions_are_decided.Goals as goal
use Rattle.wasm_validator_checks.proofs.ItemTests as decided

pub returns-clause-functions : goal.returns-clause-functions
returns-clause-functions c = decided.functions_are_decided

pub returns-clause-arities : goal.returns-clause-arities
returns-clause-arities c = decided.arities_are_kept
