-- What the validator answers, as the exported functions speak of it.
use Rattle.std.specs.declared.alloc.Global.{Global}
use Rattle.std.specs.declared.result.Result.{Result}
use Rattle.wasm_validator_handles.specs.WasmValidator.WasmValidatorTypes.declared.shown.Types as shown
use Rattle.wasm_validator_handles.specs.WasmValidator.WasmValidatorCore.declared.error.Error.{Error}

abbrev pub Answer : Type 0
Answer = Result (shown.Types Global) (Error Global)
