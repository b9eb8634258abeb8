use Rattle.wasm_validator_type_list.proofs.ListInvariants.{interned_within}
use Rattle.wasm_validator_type_list.proofs.type_list.TypeList.intern_sub_type.Goals as goal

pub members-requires : goal.members-requires
members-requires g c = interned_within _ _ c.self-2.inside _ _ _ c.index.result c.self-2.view_is c.in_ok-id.ensures.interned c.index.ensures
