use Rattle.wasm_validator_type_list.proofs.ListInvariants.{supertype_no_module, supertype_some, supertype_none}
use Rattle.wasm_validator_type_list.proofs.type_list.TypeList.supertype_of.Goals as goal

pub id_from-requires-clause-not_module : goal.id_from-requires-clause-not_module
id_from-requires-clause-not_module g c =
    supertype_no_module c.self.inside c.group_at.result c.index-place.result c.at-ty.result.now c.as_slice.result.now c.in-Some.index.now c.unpack.result
    c.self.invariant c.group_at.ensures c.at-ty.ensures c.as_slice.ensures c.in-Some.ensures.value c.unpack.ensures.value

pub returns-in-Some : goal.returns-in-Some
returns-in-Some g c =
    rw (← c.index-place.ensures)
    (supertype_some c.self.inside c.args.self.now c.group_at.result c.index-place.result c.at-ty.result.now c.as_slice.result.now c.in-Some.index.now c.unpack.result c.members-ids.result.now c.id_from.result
    c.self.view_is c.group_at.ensures c.at-ty.ensures c.as_slice.ensures c.in-Some.ensures.value c.unpack.ensures.value c.members-ids.ensures c.id_from.ensures)

pub returns-in-None : goal.returns-in-None
returns-in-None g c =
    rw (← c.index-place.ensures)
    (supertype_none c.self.inside c.args.self.now c.group_at.result c.index-place.result c.at-ty.result.now c.as_slice.result.now c.self.view_is c.group_at.ensures c.at-ty.ensures c.as_slice.ensures c.in-None.ensures.value)
