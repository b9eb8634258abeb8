use Rattle.wasm_laws_core.proofs.AcceptedTypeNumbers.{accepted_types_are_numbered}
use Rattle.wasm_laws_core.proofs.accepted_types_are_numbered.Goals as goal

pub returns : goal.returns
returns c = accepted_types_are_numbered
