-- The byte 255, behind which no operator stands.
use Rattle.std.proofs.Common.{◌≡◌, refl, ℕ, List, ◌∷◌, Option, Some, None}
use Rattle.std.specs.Option.{option_and_then}
use Rattle.wasm_operators_proposals.specs.WasmOperatorsPlain.WasmSpec.Values.{u32_at}
use Rattle.wasm_operators_proposals.specs.WasmOperatorsPlain.WasmReaders.WrittenIndices.{written}
use Rattle.wasm_operators.specs.Instructions.{prefixed_from, instruction_at}

none_behind : (o : Option (ℕ × List ℕ)) → option_and_then (λ n. prefixed_from written 255 n.0 n.1) o ≡ None
unfolding prefixed_from
none_behind None = refl
none_behind (Some x) = refl

pub no_operator : (bytes : List ℕ) {more : List ℕ} (b : ℕ) → bytes ≡ b ∷ more → b ≡ 255 → instruction_at written bytes ≡ None
unfolding instruction_at
no_operator bytes {more} b e n = rw (e, n) (none_behind (u32_at more))
