use Rattle.wasm_validator_core_resources.proofs.ById.{none_are_first, all_are_first, first_stay_first}
use Rattle.wasm_validator_core_resources.proofs.types_by_ids.first_types.Goals as goal

pub returns-clause-none : goal.returns-clause-none
returns-clause-none g c = none_are_first

pub returns-clause-all : goal.returns-clause-all
returns-clause-all g c = all_are_first

pub returns-clause-grown : goal.returns-clause-grown
returns-clause-grown g c = first_stay_first
