use Rattle.wasm_spec_validity.proofs.FirstAppearances.{types_are_numbered, numbers_tell_types_apart}
use Rattle.wasm_spec_validity.proofs.types_are_numbered.Goals as goal

pub returns : goal.returns
returns c = record { numbered = types_are_numbered; apart = numbers_tell_types_apart }
