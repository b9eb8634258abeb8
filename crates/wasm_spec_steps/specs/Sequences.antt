-- Instructions in their bytes. Core Specification 3.0, Binary Format, Instructions (Expressions).
use Rattle.std.specs.Prelude.{◌≡◌, ℕ, List, [], ◌∷◌, Some}
use Rattle.wasm_operators.specs.Instructions.{Instruction, instruction_at}

-- these instructions, one behind the other, and the bytes behind them
abbrev pub Are : List (Instruction ℕ) → List ℕ → List ℕ → Type 0
Are [] bytes more = bytes ≡ more
Are (op ∷ ops) bytes more = (next : List ℕ) × (instruction_at (λ n. n) bytes ≡ Some (op, next)) × Are ops next more
