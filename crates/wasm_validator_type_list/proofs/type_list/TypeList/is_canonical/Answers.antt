use Rattle.wasm_validator_type_list.proofs.TypePlaces.{apart_in}
use Rattle.wasm_validator_type_list.proofs.type_list.TypeList.is_canonical.Goals as goal

pub returns-clause-apart : goal.returns-clause-apart
returns-clause-apart g c = apart_in c.self.inside c.args.self.now c.self.view_is c.self.invariant
