use Rattle.wasm_spec_validity.proofs.References.{own_references_suffice}
use Rattle.wasm_spec_validity.proofs.own_references_suffice.Goals as goal

pub returns : goal.returns
returns c = record { suffice = own_references_suffice }
