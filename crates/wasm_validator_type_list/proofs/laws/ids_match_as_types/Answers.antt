use Rattle.wasm_validator_type_list.proofs.Order.{ids_are_ordered_as_types, ids_match_as_types}
use Rattle.wasm_validator_type_list.proofs.laws.ids_match_as_types.Goals as goal

pub returns-clause-order : goal.returns-clause-order
returns-clause-order g c = ids_are_ordered_as_types

pub returns-clause-value_types : goal.returns-clause-value_types
returns-clause-value_types g c = ids_match_as_types
