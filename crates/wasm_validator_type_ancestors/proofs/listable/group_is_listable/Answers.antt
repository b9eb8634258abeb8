use Rattle.wasm_validator_type_ancestors.proofs.Items.{none_first, one_more}
use Rattle.wasm_validator_type_ancestors.proofs.ListableGroups.{StandAt, group_listable, type_missed}
use Rattle.wasm_validator_type_ancestors.proofs.listable.group_is_listable.Goals as goal

pub types-init : goal.types-init
types-init g c = none_first (StandAt c.args.types c.args.group.now) c.args.group.now

pub returns-then-not-is_listable_at : goal.returns-then-not-is_listable_at
returns-then-not-is_listable_at g c =
    type_missed c.args.types c.args.group.now c.types.i c.index-group-i.result c.is_listable_at.result c.types-test.true c.index-group-i.is c.is_listable_at.ensures c.if-not-is_listable_at.true

pub types-preserved : goal.types-preserved
types-preserved g c =
    one_more (StandAt c.args.types c.args.group.now) c.args.group.now c.types.i c.index-group-i.result c.types-test.true c.index-group-i.is
    (c.is_listable_at.ensures.0 c.if-not-is_listable_at.false) c.types.invariant

pub returns : goal.returns
returns g c = group_listable c.args.types c.args.group.now c.types.i c.types-test.false c.types.invariant
