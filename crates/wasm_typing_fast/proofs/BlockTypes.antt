-- Block types of nothing and of numbers, as they are read.
use Rattle.std.proofs.Common.{◌≡◌, ℕ, List, ◌∷◌, refl}
use Rattle.std.specs.Prelude.{Some}
use Rattle.wasm_spec.specs.Syntax.{i32, i64, f32, f64}
use Rattle.wasm_spec.specs.BinaryTypes.{val_at}
use Rattle.wasm_operators_plain.specs.WasmReaders.WrittenIndices.{written}
use Rattle.wasm_operators.specs.Control.{empty_block, value_block, block_at}

module _ (b : ℕ) (bytes more : List ℕ) where
  pub of_nothing : bytes ≡ b ∷ more → b ≡ 0x40 → block_at written bytes ≡ Some (empty_block, more)
  unfolding block_at
  of_nothing e f = rw (e, f) refl

  pub of_i32 : bytes ≡ b ∷ more → b ≡ 0x7f → block_at written bytes ≡ Some (value_block i32, more)
  unfolding block_at val_at
  of_i32 e f = rw (e, f) refl

  pub of_i64 : bytes ≡ b ∷ more → b ≡ 0x7e → block_at written bytes ≡ Some (value_block i64, more)
  unfolding block_at val_at
  of_i64 e f = rw (e, f) refl

  pub of_f32 : bytes ≡ b ∷ more → b ≡ 0x7d → block_at written bytes ≡ Some (value_block f32, more)
  unfolding block_at val_at
  of_f32 e f = rw (e, f) refl

  pub of_f64 : bytes ≡ b ∷ more → b ≡ 0x7c → block_at written bytes ≡ Some (value_block f64, more)
  unfolding block_at val_at
  of_f64 e f = rw (e, f) refl

pub ruleset blocks = (of_nothing, of_i32, of_i64, of_f32, of_f64)
