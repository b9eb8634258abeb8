use Rattle.wasm_validator_type_list.proofs.TypePlaces.{apart_in}
use Rattle.wasm_validator_type_list.proofs.ListInvariants.{listable_in}
use Rattle.wasm_validator_type_list.proofs.type_list.TypeList.len.Goals as goal

pub returns-clause-apart : goal.returns-clause-apart
returns-clause-apart g c = apart_in c.self.inside c.args.self.now c.self.view_is c.self.invariant

pub returns-clause-listable : goal.returns-clause-listable
returns-clause-listable g c = listable_in c.self.inside c.args.self.now c.self.view_is c.self.invariant
