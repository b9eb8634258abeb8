use Rattle.wasm_validator_canonical.proofs.Sections.{added_sections_are_valid, valid_sections_are_added, counted_sections_are_added, added_types_are_counted}
use Rattle.wasm_validator_canonical.proofs.type_sections_are_added_where_valid.Goals as goal

pub returns-clause-accepted : goal.returns-clause-accepted
returns-clause-accepted c = added_sections_are_valid

pub returns-clause-valid : goal.returns-clause-valid
returns-clause-valid c = valid_sections_are_added

pub returns-clause-known : goal.returns-clause-known
returns-clause-known c = counted_sections_are_added

pub returns-clause-counted : goal.returns-clause-counted
returns-clause-counted c = added_types_are_counted
