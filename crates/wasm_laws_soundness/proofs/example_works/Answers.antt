-- The law is the lemma.
use Rattle.wasm_laws_soundness.proofs.Example.{example_works}
use Rattle.wasm_laws_soundness.proofs.example_works.Goals as goal

pub returns : goal.returns
returns c = example_works
