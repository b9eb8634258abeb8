-- The law is the lemma.
use Rattle.wasm_laws_soundness.proofs.SoundnessTheorem.{never_stuck}
use Rattle.wasm_laws_soundness.proofs.typed_code_is_never_stuck.Goals as goal

pub returns : goal.returns
returns g c = never_stuck _
