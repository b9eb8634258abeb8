use Rattle.std.proofs.Common.{◌≡◌, ℕ, List, ◌∷◌, true, false, Some, refl}
use Rattle.wasm_operators_proposals.specs.WasmOperatorsPlain.WasmReaders.WasmReadersBytes.Reader.{rest}
use Rattle.wasm_operators.specs.References.{cast_flags_at}
use Rattle.wasm_operators.proofs.references.read_cast_flags.Goals as goal

-- the flags of each byte
module _ (b : ℕ) (bytes more : List ℕ) where
  of_0 : bytes ≡ b ∷ more → b ≡ 0 → cast_flags_at bytes ≡ Some ((false, false), more)
  unfolding cast_flags_at
  of_0 e f = rw (e, f) refl

  of_1 : bytes ≡ b ∷ more → b ≡ 1 → cast_flags_at bytes ≡ Some ((true, false), more)
  unfolding cast_flags_at
  of_1 e f = rw (e, f) refl

  of_2 : bytes ≡ b ∷ more → b ≡ 2 → cast_flags_at bytes ≡ Some ((false, true), more)
  unfolding cast_flags_at
  of_2 e f = rw (e, f) refl

  of_3 : bytes ≡ b ∷ more → b ≡ 3 → cast_flags_at bytes ≡ Some ((true, true), more)
  unfolding cast_flags_at
  of_3 e f = rw (e, f) refl

pub returns-in-0-clause-ok : goal.returns-in-0-clause-ok
returns-in-0-clause-ok c = of_0 c.in_ok-read_u8.field-0 (rest c.args.reader.now) (rest c.read_u8.new.self) c.in_ok-read_u8.ensures.ok c.in-0.is

pub returns-in-1-clause-ok : goal.returns-in-1-clause-ok
returns-in-1-clause-ok c = of_1 c.in_ok-read_u8.field-0 (rest c.args.reader.now) (rest c.read_u8.new.self) c.in_ok-read_u8.ensures.ok c.in-1.is

pub returns-in-2-clause-ok : goal.returns-in-2-clause-ok
returns-in-2-clause-ok c = of_2 c.in_ok-read_u8.field-0 (rest c.args.reader.now) (rest c.read_u8.new.self) c.in_ok-read_u8.ensures.ok c.in-2.is

pub returns-in-3-clause-ok : goal.returns-in-3-clause-ok
returns-in-3-clause-ok c = of_3 c.in_ok-read_u8.field-0 (rest c.args.reader.now) (rest c.read_u8.new.self) c.in_ok-read_u8.ensures.ok c.in-3.is
