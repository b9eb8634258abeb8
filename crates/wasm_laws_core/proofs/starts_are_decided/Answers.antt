use Rattle.wasm_laws_core.proofs.StartFunctions.{starts_are_decided}
use Rattle.wasm_laws_core.proofs.starts_are_decided.Goals as goal

pub returns : goal.returns
returns c = starts_are_decided
