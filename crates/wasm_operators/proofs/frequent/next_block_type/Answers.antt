use Rattle.std.proofs.Common.{◌≡◌, ℕ, List, ◌∷◌, Some, refl}
use Rattle.wasm_operators_proposals.specs.WasmOperatorsPlain.WasmSpec.Syntax.{i32, i64, f32, f64}
use Rattle.wasm_operators_proposals.specs.WasmOperatorsPlain.WasmSpec.BinaryTypes.{val_at}
use Rattle.wasm_operators_proposals.specs.WasmOperatorsPlain.WasmReaders.WasmReadersBytes.Reader.{rest}
use Rattle.wasm_operators_proposals.specs.WasmOperatorsPlain.WasmReaders.WrittenIndices.{written}
use Rattle.wasm_operators.specs.Control.{empty_block, value_block, block_at}
use Rattle.wasm_operators.proofs.frequent.next_block_type.Goals as goal

-- block types of one byte
module _ (b : ℕ) (bytes more : List ℕ) where
  of_nothing : bytes ≡ b ∷ more → b ≡ 0x40 → block_at written bytes ≡ Some (empty_block, more)
  unfolding block_at
  of_nothing e f = rw (e, f) refl

  of_i32 : bytes ≡ b ∷ more → b ≡ 0x7f → block_at written bytes ≡ Some (value_block i32, more)
  unfolding block_at val_at
  of_i32 e f = rw (e, f) refl

  of_i64 : bytes ≡ b ∷ more → b ≡ 0x7e → block_at written bytes ≡ Some (value_block i64, more)
  unfolding block_at val_at
  of_i64 e f = rw (e, f) refl

  of_f32 : bytes ≡ b ∷ more → b ≡ 0x7d → block_at written bytes ≡ Some (value_block f32, more)
  unfolding block_at val_at
  of_f32 e f = rw (e, f) refl

  of_f64 : bytes ≡ b ∷ more → b ≡ 0x7c → block_at written bytes ≡ Some (value_block f64, more)
  unfolding block_at val_at
  of_f64 e f = rw (e, f) refl

pub returns-in-64-clause-some : goal.returns-in-64-clause-some
returns-in-64-clause-some c = of_nothing c.in_ok-next_u8.field-0 (rest c.args.reader.now) (rest c.next_u8.new.self) c.in_ok-next_u8.ensures.some c.in-64.is

pub returns-in-124-clause-some : goal.returns-in-124-clause-some
returns-in-124-clause-some c = of_f64 c.in_ok-next_u8.field-0 (rest c.args.reader.now) (rest c.next_u8.new.self) c.in_ok-next_u8.ensures.some c.in-124.is

pub returns-in-125-clause-some : goal.returns-in-125-clause-some
returns-in-125-clause-some c = of_f32 c.in_ok-next_u8.field-0 (rest c.args.reader.now) (rest c.next_u8.new.self) c.in_ok-next_u8.ensures.some c.in-125.is

pub returns-in-126-clause-some : goal.returns-in-126-clause-some
returns-in-126-clause-some c = of_i64 c.in_ok-next_u8.field-0 (rest c.args.reader.now) (rest c.next_u8.new.self) c.in_ok-next_u8.ensures.some c.in-126.is

pub returns-in-127-clause-some : goal.returns-in-127-clause-some
returns-in-127-clause-some c = of_i32 c.in_ok-next_u8.field-0 (rest c.args.reader.now) (rest c.next_u8.new.self) c.in_ok-next_u8.ensures.some c.in-127.is
