use Rattle.wasm_validator_type_list.proofs.ListInvariants.{ids_seen}
use Rattle.wasm_validator_type_list.proofs.type_list.TypeList.refers_by_ids.Goals as goal

pub returns : goal.returns
returns g c = ids_seen c.self.inside c.args.self.now c.self.view_is c.self.invariant
