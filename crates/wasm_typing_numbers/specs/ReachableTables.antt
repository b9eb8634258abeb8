-- What a body reaches of its module's tables.
use Rattle.std.specs.Prelude.{ℕ, Bool, Option, slice_get}
use Rattle.wasm_readers_errors.specs.WasmSpec.Syntax.{Table}
use Rattle.wasm_readers_errors.specs.WasmSpec.ValueTypes.{implies}
use Rattle.wasm_typing_checks.specs.WasmSpecRules.Contexts.{Context}
use Rattle.wasm_readers_types.specs.WasmReadersValues.declared.indices.UnpackedIndex.{UnpackedIndex}
use Rattle.wasm_typing_checks.specs.WasmSpecRules.Attempts.{◌>>=◌, guard}

-- the table of an index, from a shared function or from another
unfoldable pub table_in : Context UnpackedIndex → Bool → ℕ → Option (Table UnpackedIndex)
table_in C shared n = slice_get C.tables n >>= λ t. guard (implies shared t.shared) t
