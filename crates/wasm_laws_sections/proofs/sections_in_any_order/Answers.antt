use Rattle.wasm_laws_sections.proofs.SectionMethods.{types_anywhere, imports_anywhere, functions_anywhere, tables_anywhere, memories_anywhere, tags_anywhere, globals_anywhere, exports_anywhere, starts_anywhere, elements_anywhere, data_counts_anywhere, code_starts_anywhere, bodies_anywhere, segments_anywhere, segments_after_code}
use Rattle.wasm_laws_sections.proofs.sections_in_any_order.Goals as goal

pub returns-clause-types : goal.returns-clause-types
returns-clause-types c = types_anywhere

pub returns-clause-imports : goal.returns-clause-imports
returns-clause-imports c = imports_anywhere

pub returns-clause-functions : goal.returns-clause-functions
returns-clause-functions c = functions_anywhere

pub returns-clause-tables : goal.returns-clause-tables
returns-clause-tables c = tables_anywhere

pub returns-clause-memories : goal.returns-clause-memories
returns-clause-memories c = memories_anywhere

pub returns-clause-tags : goal.returns-clause-tags
returns-clause-tags c = tags_anywhere

pub returns-clause-globals : goal.returns-clause-globals
returns-clause-globals c = globals_anywhere

pub returns-clause-exports : goal.returns-clause-exports
returns-clause-exports c = exports_anywhere

pub returns-clause-start : goal.returns-clause-start
returns-clause-start c = starts_anywhere

pub returns-clause-elements : goal.returns-clause-elements
returns-clause-elements c = elements_anywhere

pub returns-clause-data_count : goal.returns-clause-data_count
returns-clause-data_count c = data_counts_anywhere

pub returns-clause-code_start : goal.returns-clause-code_start
returns-clause-code_start c = code_starts_anywhere

pub returns-clause-bodies : goal.returns-clause-bodies
returns-clause-bodies c = bodies_anywhere

pub returns-clause-segments : goal.returns-clause-segments
returns-clause-segments c = segments_anywhere

pub returns-clause-segments_after_code : goal.returns-clause-segments_after_code
returns-clause-segments_after_code c = segments_after_code
