use Rattle.wasm_spec_validity.proofs.RenamedBodies.{typed_bodies_are_renamed}
use Rattle.wasm_spec_validity.proofs.typed_bodies_are_renamed.Goals as goal

pub returns : goal.returns
returns g c = record { bodies = typed_bodies_are_renamed }
