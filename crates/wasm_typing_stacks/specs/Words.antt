-- Operands and block types as numbers: those of value types, and others whose remainder by 8 is above 4.
use Rattle.std.specs.Prelude.{ℕ, zero, suc, ◌==◌, ◌/◌, ◌%◌, nat_lt, if◌then◌else◌}
use Rattle.wasm_operators_plain.specs.WasmReadersTypes.WasmReadersValues.declared.indices.UnpackedIndex.{UnpackedIndex}
use Rattle.wasm_typing_stacks.specs.TypeWords.{abstract_at, val_at, val_number}
use Rattle.wasm_spec_steps.specs.Control.{Block, empty_block, value_block, func_block}
use Rattle.wasm_spec_steps.specs.Machine.{Operand, bottom, bottom_reference, open_reference, known}

abbrev pub special_at : ℕ → Operand UnpackedIndex
special_at zero = bottom
special_at (suc zero) = bottom_reference
special_at (suc (suc n)) = open_reference (abstract_at n)

unfoldable pub operand_at : ℕ → Operand UnpackedIndex
operand_at bits = if nat_lt (bits % 8) 5 then known (val_at bits) else special_at (bits / 8)

-- the number that has to be below MAX_IDS
abbrev pub operand_number : Operand UnpackedIndex → ℕ
operand_number (known v) = val_number v
operand_number _ = 0

unfoldable pub block_at : ℕ → Block UnpackedIndex
block_at bits = if nat_lt (bits % 8) 5 then value_block (val_at bits) else (if bits % 8 == 7 then func_block (bits / 8) else empty_block)

abbrev pub block_number : Block UnpackedIndex → ℕ
block_number (value_block v) = val_number v
block_number _ = 0
