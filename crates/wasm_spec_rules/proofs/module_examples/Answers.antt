use Rattle.wasm_spec_rules.proofs.ModuleExamples.{memory_is_exported, no_name_twice, no_start_with_parameter, header_is_module, entry_of_one_type_is_two, entry_with_types_is_two, no_entry_is_two}
use Rattle.wasm_spec_rules.proofs.module_examples.Goals as goal

pub returns-clause-export : goal.returns-clause-export
returns-clause-export c = memory_is_exported

pub returns-clause-no_name : goal.returns-clause-no_name
returns-clause-no_name c = no_name_twice

pub returns-clause-no_start : goal.returns-clause-no_start
returns-clause-no_start c = no_start_with_parameter

pub returns-clause-header : goal.returns-clause-header
returns-clause-header c = header_is_module

pub returns-clause-one_type : goal.returns-clause-one_type
returns-clause-one_type c = entry_of_one_type_is_two

pub returns-clause-with_types : goal.returns-clause-with_types
returns-clause-with_types c = entry_with_types_is_two

pub returns-clause-no_compact : goal.returns-clause-no_compact
returns-clause-no_compact c = no_entry_is_two
