-- Block types that take nothing, and give nothing or a number.
use Rattle.std.specs.Prelude.{ℕ, Bool, true, Option, None, Some}
use Rattle.wasm_spec.specs.Features.{Features}
use Rattle.wasm_spec.specs.ValueTypes.{allows_val}
use Rattle.wasm_readers_types.specs.WasmReadersValues.declared.indices.UnpackedIndex.{UnpackedIndex}
use Rattle.wasm_operators_plain.specs.declared.signatures.NumberType.{NumberType}
use Rattle.wasm_operators.specs.Control.{Block, empty_block, value_block}
use Rattle.wasm_typing_control.specs.WasmTypingChecks.WasmSpecSteps.Shapes.{number_type}
use Rattle.wasm_typing_control.specs.WasmTypingChecks.WasmTypingStacks.SeenTypeWords.{number_val}

-- as it is written
abbrev pub block_giving : Option NumberType → Block ℕ
block_giving None = empty_block
block_giving (Some n) = value_block (number_type n)

-- by identities, of which it has none
abbrev pub block_named : Option NumberType → Block UnpackedIndex
block_named None = empty_block
block_named (Some n) = value_block (number_val n)

-- the features allow what it gives
abbrev pub allows_giving : Features → Option NumberType → Bool
allows_giving F None = true
allows_giving F (Some n) = allows_val {R = ℕ} F (number_type n)
