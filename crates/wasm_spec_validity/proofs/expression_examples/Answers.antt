use Rattle.wasm_spec_validity.proofs.Examples as examples
use Rattle.wasm_spec_validity.proofs.expression_examples.Goals as goal

pub returns : goal.returns
returns c = record {
  end = examples.read_to_its_end;
  no_end = examples.nothing_read_without_end;
  named = examples.function_is_named;
}
