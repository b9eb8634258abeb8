use Rattle.wasm_laws_soundness.proofs.Constants.{constants_are_typed}
use Rattle.wasm_laws_soundness.proofs.constants_are_typed.Goals as goal

pub returns : goal.returns
returns g c = constants_are_typed _
