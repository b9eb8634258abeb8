-- What a body may call.
use Rattle.std.specs.Prelude.{ℕ, Bool, Option, slice_get}
use Rattle.wasm_readers_types.specs.WasmSpec.ValueTypes.{implies}
use Rattle.wasm_typing_numbers.specs.WasmTypingChecks.WasmValidatorResources.WasmSpecRules.Contexts.{Context}
use Rattle.wasm_readers_types.specs.WasmReadersValues.declared.indices.UnpackedIndex.{UnpackedIndex}
use Rattle.wasm_typing_numbers.specs.WasmTypingChecks.WasmValidatorResources.WasmSpecRules.Attempts.{◌>>=◌, guard}
use Rattle.wasm_typing_numbers.specs.WasmTypingChecks.WasmValidatorResources.WasmSpecRules.Signatures.{Signature, signature_of}
use Rattle.wasm_typing_numbers.specs.WasmTypingChecks.WasmValidatorResources.Answers.{sub_in}

-- the function type of a type index, and that of a function, from a shared function or from another
unfoldable pub type_in : Context UnpackedIndex → Bool → ℕ → Option (Signature UnpackedIndex)
type_in C shared n = sub_in C n >>= λ d. signature_of d.comp >>= guard (implies shared d.shared)

unfoldable pub function_in : Context UnpackedIndex → Bool → ℕ → Option (Signature UnpackedIndex)
function_in C shared n = slice_get C.functions n >>= type_in C shared
