-- The law is the lemma.
use Rattle.wasm_laws_soundness.proofs.ValidModules.{valid_modules_never_get_stuck}
use Rattle.wasm_laws_soundness.proofs.valid_modules_never_get_stuck.Goals as goal

pub returns : goal.returns
returns c = valid_modules_never_get_stuck
