-- What contracts see of a validator.
use Rattle.std.specs.Prelude.{Bool, true, false}
use Rattle.wasm_validator_states.specs.WasmValidatorTypeList.DefTypes.{types_of_list}
use Rattle.wasm_validator_states.specs.WasmParser.declared.payload.Encoding.{Encoding}
use Rattle.wasm_validator_states.specs.WasmParser.declared.payload.Encoding.TheVariants as encodings
use Rattle.wasm_validator_states.specs.Views.{stage_of}
use Rattle.wasm_validator_states.specs.ValidatorStages.{Standing}
use Rattle.wasm_validator_modules.specs.declared.validator.Validator.TheInside.{Inside}

module _ {A : Type 0} where
  abbrev pub standing_of : Inside A → Standing
  standing_of a = record { id = a.id; features = a.features; stage = stage_of (types_of_list a.types) a.state }

-- the header is a module's
abbrev pub is_module : Encoding → Bool
is_module encodings.Module = true
is_module encodings.Component = false
