use Rattle.wasm_validator_type_list.proofs.ListInvariants.{listable_seen}
use Rattle.wasm_validator_type_list.proofs.type_list.TypeList.is_listable.Goals as goal

pub returns : goal.returns
returns g c =
    listable_seen c.self.inside c.args.self.now c.item_count.result c.types.result.now c.args.group.now.types c.group_is_listable.result c.self.view_is c.item_count.ensures c.types.ensures c.group_is_listable.ensures
