use Rattle.wasm_validator_type_groups.proofs.MemberPlaces.{other_length, is_there, stands_at}
use Rattle.wasm_validator_type_groups.proofs.known_groups.is_group.Goals as goal

pub returns-then-saturating_sub-group : goal.returns-then-saturating_sub-group
returns-then-saturating_sub-group g c =
    other_length c.args.groups.now c.args.number c.args.group.now c.members-ids.result.now c.index-start.result c.index.result c.saturating_sub.result c.members-ids.ensures c.index-start.ensures c.index.ensures c.saturating_sub.ensures c.if-saturating_sub-group.true

pub are_at-requires : goal.are_at-requires
are_at-requires g c =
    stands_at c.args.groups.now c.args.number c.args.group.now c.members-ids.result.now c.index-start.result c.index.result c.saturating_sub.result c.members-ids.ensures c.index-start.ensures c.index.ensures c.saturating_sub.ensures c.requires c.if-saturating_sub-group.false

pub returns : goal.returns
returns g c =
    is_there c.args.groups.now c.args.number c.args.group.now c.members-ids.result.now c.index-start.result c.index.result c.saturating_sub.result c.members-ids.ensures c.index-start.ensures c.index.ensures c.saturating_sub.ensures c.are_at.result c.requires c.if-saturating_sub-group.false c.are_at.ensures
