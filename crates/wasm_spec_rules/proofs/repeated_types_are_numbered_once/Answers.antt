use Rattle.wasm_spec_rules.proofs.Contexts.{repeated_type_is_one, type_of_others_is_none}
use Rattle.wasm_spec_rules.proofs.repeated_types_are_numbered_once.Goals as goal

pub returns : goal.returns
returns c = record { once = repeated_type_is_one; none = type_of_others_is_none }
