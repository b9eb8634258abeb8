use Rattle.wasm_validator_type_groups.proofs.FlatGroups.{parted-push, cut-pushed}
use Rattle.wasm_validator_type_groups.proofs.grouped_list.GroupedList.push.Goals as goal

pub invariant_of-self-2 : goal.invariant_of-self-2
invariant_of-self-2 g c =
    let e = c.in_ok-push_flat.ensures in
    rw (e.items, e.spans, e.owners) (parted-push c.self.inside.items c.args.group.items c.self.inside.spans c.self.inside.owners c.self.invariant)

pub returns-clause-ok : goal.returns-clause-ok
returns-clause-ok g c =
    let a = c.self.inside in
    cut-pushed a.items _ c.args.group.items a.spans _ c.args.self.now c.self.invariant.within c.in_ok-push_flat.ensures.items c.in_ok-push_flat.ensures.spans c.self.view_is
