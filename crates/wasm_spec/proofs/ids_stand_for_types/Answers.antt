use Rattle.wasm_spec.proofs.ListedGroups.{equal_trees_equal_listed_groups, listed_group_is_written_group}
use Rattle.wasm_spec.proofs.ids_stand_for_types.Goals as goal

pub returns-clause-equal : goal.returns-clause-equal
returns-clause-equal c = equal_trees_equal_listed_groups

pub returns-clause-written : goal.returns-clause-written
returns-clause-written c = listed_group_is_written_group
