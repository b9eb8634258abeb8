use Rattle.wasm_spec_instructions.proofs.AcceptedWorlds.{accepted_worlds_are_in_order}
use Rattle.wasm_spec_instructions.proofs.accepted_worlds_are_in_order.Goals as goal

pub returns : goal.returns
returns g c = accepted_worlds_are_in_order _
