use Rattle.wasm_validator_type_checks.proofs.IdsAndTypes.{ids_keep_rules_as_types, groups_keep_rules_as_types}
use Rattle.wasm_validator_type_checks.proofs.laws.ids_keep_rules_as_types.Goals as goal

pub returns-clause-types : goal.returns-clause-types
returns-clause-types g c = ids_keep_rules_as_types

pub returns-clause-groups : goal.returns-clause-groups
returns-clause-groups g c = groups_keep_rules_as_types
