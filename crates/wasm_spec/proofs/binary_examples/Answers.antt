use Rattle.wasm_spec.proofs.BinaryExamples.{references_are_never_null, references_may_be_null, structures_are_read, import_is_read, entries_are_read, unsigned_numbers_are_read, signed_numbers_are_read, value_types_are_read, fields_are_read, composite_types_are_read, groups_are_read, memories_are_read, tables_are_read, globals_and_tags_are_read, extern_types_are_read, export_is_read, elements_are_read, data_are_read, entries_with_expressions_are_read, sections_have_places}
use Rattle.wasm_spec.proofs.binary_examples.Goals as goal

pub returns-clause-never_null : goal.returns-clause-never_null
returns-clause-never_null c = references_are_never_null

pub returns-clause-may_be_null : goal.returns-clause-may_be_null
returns-clause-may_be_null c = references_may_be_null

pub returns-clause-structures : goal.returns-clause-structures
returns-clause-structures c = structures_are_read

pub returns-clause-import : goal.returns-clause-import
returns-clause-import c = import_is_read

pub returns-clause-entries : goal.returns-clause-entries
returns-clause-entries c = entries_are_read

pub returns-clause-unsigned : goal.returns-clause-unsigned
returns-clause-unsigned c = unsigned_numbers_are_read

pub returns-clause-signed : goal.returns-clause-signed
returns-clause-signed c = signed_numbers_are_read

pub returns-clause-values : goal.returns-clause-values
returns-clause-values c = value_types_are_read

pub returns-clause-fields : goal.returns-clause-fields
returns-clause-fields c = fields_are_read

pub returns-clause-composites : goal.returns-clause-composites
returns-clause-composites c = composite_types_are_read

pub returns-clause-groups : goal.returns-clause-groups
returns-clause-groups c = groups_are_read

pub returns-clause-memories : goal.returns-clause-memories
returns-clause-memories c = memories_are_read

pub returns-clause-tables : goal.returns-clause-tables
returns-clause-tables c = tables_are_read

pub returns-clause-globals : goal.returns-clause-globals
returns-clause-globals c = globals_and_tags_are_read

pub returns-clause-externs : goal.returns-clause-externs
returns-clause-externs c = extern_types_are_read

pub returns-clause-exports : goal.returns-clause-exports
returns-clause-exports c = export_is_read

pub returns-clause-elements : goal.returns-clause-elements
returns-clause-elements c = elements_are_read

pub returns-clause-data : goal.returns-clause-data
returns-clause-data c = data_are_read

pub returns-clause-with_expressions : goal.returns-clause-with_expressions
returns-clause-with_expressions c = entries_with_expressions_are_read

pub returns-clause-places : goal.returns-clause-places
returns-clause-places c = sections_have_places
