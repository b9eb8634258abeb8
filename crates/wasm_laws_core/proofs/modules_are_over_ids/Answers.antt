use Rattle.wasm_laws_core.proofs.ModuleOverIds.{modules_are_over_ids}
use Rattle.wasm_laws_core.proofs.modules_are_over_ids.Goals as goal

pub returns : goal.returns
returns g c = modules_are_over_ids
