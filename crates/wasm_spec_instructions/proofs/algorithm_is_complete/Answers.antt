use Rattle.wasm_spec_instructions.proofs.MainTheorems.{completeness}
use Rattle.wasm_spec_instructions.proofs.algorithm_is_complete.Goals as goal

pub returns : goal.returns
returns g c = completeness _
