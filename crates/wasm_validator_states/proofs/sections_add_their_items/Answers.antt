use Rattle.wasm_validator_states.proofs.EntriesAdded.{tables_add, globals_add, elements_add, segments_add}
use Rattle.wasm_validator_states.proofs.ExportsAdded.{exports_add}
use Rattle.wasm_validator_states.proofs.ImportsAdded.{imports_add}
use Rattle.wasm_validator_states.proofs.SectionLaws.{functions_add, memories_add, tags_add}
use Rattle.wasm_validator_states.proofs.TypesAdded.{types_add}
use Rattle.wasm_validator_states.proofs.UsedLaws.{used_laws}
use Rattle.wasm_validator_states.proofs.sections_add_their_items.Goals as goal

pub returns-clause-types : goal.returns-clause-types
returns-clause-types c = types_add

pub returns-clause-imports : goal.returns-clause-imports
returns-clause-imports c = imports_add

pub returns-clause-functions : goal.returns-clause-functions
returns-clause-functions c = functions_add

pub returns-clause-tables : goal.returns-clause-tables
returns-clause-tables c = tables_add used_laws.entries

pub returns-clause-memories : goal.returns-clause-memories
returns-clause-memories c = memories_add

pub returns-clause-tags : goal.returns-clause-tags
returns-clause-tags c = tags_add

pub returns-clause-globals : goal.returns-clause-globals
returns-clause-globals c = globals_add used_laws.entries

pub returns-clause-exports : goal.returns-clause-exports
returns-clause-exports c = exports_add

pub returns-clause-elements : goal.returns-clause-elements
returns-clause-elements c = elements_add used_laws.entries

pub returns-clause-segments : goal.returns-clause-segments
returns-clause-segments c = segments_add used_laws.entries
