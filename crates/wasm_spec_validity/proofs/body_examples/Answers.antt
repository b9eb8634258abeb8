use Rattle.wasm_spec_validity.proofs.Examples as examples
use Rattle.wasm_spec_validity.proofs.body_examples.Goals as goal

pub returns : goal.returns
returns c = record {
  results = examples.bodies_give_results;
  no_exchanged = examples.no_exchanged_bodies;
  no_missing_end = examples.no_last_body_without_end;
}
