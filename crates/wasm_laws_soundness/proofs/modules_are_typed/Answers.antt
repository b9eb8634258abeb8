use Rattle.wasm_laws_soundness.proofs.ModulesByRules.{modules_are_typed}
use Rattle.wasm_laws_soundness.proofs.modules_are_typed.Goals as goal

pub returns : goal.returns
returns g = modules_are_typed
