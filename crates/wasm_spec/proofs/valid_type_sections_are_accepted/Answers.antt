use Rattle.wasm_spec.proofs.AcceptedSections.{valid_type_section_is_accepted}
use Rattle.wasm_spec.proofs.valid_type_sections_are_accepted.Goals as goal

pub returns : goal.returns
returns c = record { accepted = valid_type_section_is_accepted }
