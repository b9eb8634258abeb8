-- Core Specification 3.0, Binary Format, Instructions: the constants of numeric and vector instructions.
use Rattle.std.specs.Prelude.{ℕ, zero, suc, ◌+◌, ◌*◌, ◌^◌, ◌==◌, if◌then◌else◌, List, [], ◌∷◌, Option, Some, None}
use Rattle.std.specs.Option.{option_map, option_and_then}
use Rattle.wasm_readers.specs.WasmSpec.Values.{signed_at}
use Rattle.wasm_operators_plain.specs.declared.constants.V128.{V128}
use Rattle.wasm_operators_plain.specs.declared.constants.ConstantOperator.{ConstantOperator}
use Rattle.wasm_operators_plain.specs.declared.constants.ConstantOperator.TheVariants.{I32Const, I64Const, F32Const, F64Const, V128Const}

-- so many bytes as a number, the least significant first
abbrev pub little_endian_at : ℕ → List ℕ → Option (ℕ × List ℕ)
little_endian_at zero bytes = Some (0, bytes)
little_endian_at (suc n) [] = None
little_endian_at (suc n) (b ∷ bytes) = option_map (λ m. (b + 2 ^ 8 * m.0, m.1)) (little_endian_at n bytes)

-- the bits of 32, 64 and 128 in their bytes, the low half first
unfoldable pub bits_32_at : List ℕ → Option (ℕ × List ℕ)
bits_32_at = little_endian_at 4

unfoldable pub bits_64_at : List ℕ → Option (ℕ × List ℕ)
bits_64_at bytes = option_and_then (λ low. option_map (λ high. (low.0 + 2 ^ 32 * high.0, high.1)) (bits_32_at low.1)) (bits_32_at bytes)

unfoldable pub bits_128_at : List ℕ → Option (V128 × List ℕ)
bits_128_at bytes = option_and_then (λ low. option_map (λ high. (record { low = low.0; high = high.0 }, high.1)) (bits_64_at low.1)) (bits_64_at bytes)

-- constants by their byte
unfoldable pub constant_from : ℕ → List ℕ → Option (ConstantOperator × List ℕ)
constant_from b bytes =
    if b == 0x41 then option_map (λ n. (I32Const n.0, n.1)) (signed_at 32 bytes)
    else (if b == 0x42 then option_map (λ n. (I64Const n.0, n.1)) (signed_at 64 bytes)
    else (if b == 0x43 then option_map (λ n. (F32Const (record { 0 = n.0 }), n.1)) (bits_32_at bytes)
    else (if b == 0x44 then option_map (λ n. (F64Const (record { 0 = n.0 }), n.1)) (bits_64_at bytes)
    else None)))

-- the constant of vector instructions, by its number behind the prefix fd
unfoldable pub vector_from : ℕ → List ℕ → Option (ConstantOperator × List ℕ)
vector_from n bytes = if n == 12 then option_map (λ v. (V128Const v.0, v.1)) (bits_128_at bytes) else None
