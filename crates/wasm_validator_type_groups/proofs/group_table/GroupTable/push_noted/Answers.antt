use Rattle.std.proofs.Common.{refl}
use Rattle.wasm_validator_type_groups.proofs.Tables.{table-push}
use Rattle.wasm_validator_type_groups.proofs.group_table.GroupTable.push_noted.Goals as goal

pub invariant_of-self-2 : goal.invariant_of-self-2
invariant_of-self-2 g c =
    let a = c.self.inside in
    table-push g.T.Hash.hash_input a _ c.args.self.now c.reserve.new.self c.args.group.items c.args.hash c.group_count-number.result c.self.invariant c.self.view_is c.requires.group_room c.reserve.ensures.same c.add.ensures c.requires.hash
    c.group_count-number.ensures c.in_ok-push_noted.ensures.ok refl
