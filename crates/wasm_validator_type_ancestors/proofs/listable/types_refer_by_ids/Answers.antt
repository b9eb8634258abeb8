use Rattle.wasm_validator_type_ancestors.proofs.ByIds.{more_by_ids, less_by_ids}
use Rattle.wasm_validator_type_ancestors.proofs.listable.types_refer_by_ids.Goals as goal

pub returns-then-of_list : goal.returns-then-of_list
returns-then-of_list g c = λ listed d. more_by_ids listed c.args.group.now c.args.of_list d c.group_refers_by_ids.result c.if-of_list.true c.group_refers_by_ids.ensures

pub returns-else-of_list : goal.returns-else-of_list
returns-else-of_list g c = λ listed d. less_by_ids listed c.args.group.now c.args.of_list d c.if-of_list.false
