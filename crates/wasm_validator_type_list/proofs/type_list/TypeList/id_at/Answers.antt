use Rattle.wasm_validator_type_list.proofs.GroupMatching.{known_room, known_there}
use Rattle.wasm_validator_type_list.proofs.type_list.TypeList.id_at.Goals as goal

pub id_from-requires-clause-room : goal.id_from-requires-clause-room
id_from-requires-clause-room g c =
    known_room c.self.inside c.args.self.now c.index.result c.args.group.index c.members.result.now c.args.index c.self.view_is c.self.invariant c.index.ensures c.members.ensures c.requires.known

pub returns-clause-there : goal.returns-clause-there
returns-clause-there g c =
    known_there c.self.inside c.args.self.now c.index.result c.args.group.index c.members.result.now c.args.index c.id_from.result c.self.view_is c.index.ensures c.members.ensures c.requires.known c.id_from.ensures
