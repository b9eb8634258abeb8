use Rattle.wasm_validator_type_list.proofs.ListInvariants.{span_room}
use Rattle.wasm_validator_type_list.proofs.type_list.TypeList.rec_group_local_id.Goals as goal

pub local_id-requires-clause-start : goal.local_id-requires-clause-start
local_id-requires-clause-start g c = (span_room c.self.inside c.index.result c.members.result.now c.self.invariant c.members.ensures).0

pub local_id-requires-clause-end : goal.local_id-requires-clause-end
local_id-requires-clause-end g c = (span_room c.self.inside c.index.result c.members.result.now c.self.invariant c.members.ensures).1
