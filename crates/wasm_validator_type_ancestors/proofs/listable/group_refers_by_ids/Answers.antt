use Rattle.wasm_validator_type_ancestors.proofs.Items.{none_first, one_more, all_first}
use Rattle.wasm_validator_type_ancestors.proofs.ByIds.{ByIds, ids_there, not_by_ids}
use Rattle.wasm_validator_type_ancestors.proofs.listable.group_refers_by_ids.Goals as goal

pub types-init : goal.types-init
types-init g c = none_first (λ k s. ByIds c.args.types s) c.args.group.now

pub returns-then-not-is_listable_at : goal.returns-then-not-is_listable_at
returns-then-not-is_listable_at g c =
    not_by_ids c.args.types c.args.group.now c.types.i c.index-group-i.result c.is_listable_at.result c.requires c.types-test.true c.index-group-i.is c.is_listable_at.ensures c.if-not-is_listable_at.true

pub types-preserved : goal.types-preserved
types-preserved g c =
    one_more (λ k s. ByIds c.args.types s) c.args.group.now c.types.i c.index-group-i.result c.types-test.true c.index-group-i.is
    (ids_there c.args.types c.index-group-i.result (c.is_listable_at.ensures.0 c.if-not-is_listable_at.false)) c.types.invariant

pub returns : goal.returns
returns g c = all_first (ByIds c.args.types) c.args.group.now c.types.i c.types-test.false c.types.invariant
