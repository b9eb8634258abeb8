-- The law is the lemma.
use Rattle.wasm_laws_soundness.proofs.HeightsInModules.{valid_modules_have_their_heights}
use Rattle.wasm_laws_soundness.proofs.valid_modules_have_their_heights.Goals as goal

pub returns : goal.returns
returns c = valid_modules_have_their_heights
