use Rattle.std.proofs.Common.{arith}
use Rattle.wasm_validator_type_list.proofs.ListInvariants.{span_room}
use Rattle.wasm_validator_type_list.proofs.type_list.TypeList.rec_group_elements.Goals as goal

pub new-requires-clause-start : goal.new-requires-clause-start
new-requires-clause-start g c = omega (arith, span_room c.self.inside c.index.result c.members.result.now c.self.invariant c.members.ensures)

pub new-requires-clause-end : goal.new-requires-clause-end
new-requires-clause-end g c = omega (arith, span_room c.self.inside c.index.result c.members.result.now c.self.invariant c.members.ensures)
