use Rattle.wasm_validator_states.proofs.Resets.{refused_keep_types}
use Rattle.wasm_validator_states.proofs.refused_modules_keep_types.Goals as goal

pub returns : goal.returns
returns c = refused_keep_types
