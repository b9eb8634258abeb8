use Rattle.wasm_spec_validity.proofs.ModuleExamples.{global_is_module, no_global_of_another_type}
use Rattle.wasm_spec_validity.proofs.module_examples.Goals as goal

pub returns : goal.returns
returns c = record { global = global_is_module; no_global = no_global_of_another_type }
