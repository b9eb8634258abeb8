-- What may follow the opcode of an operator. Core Specification 3.0, Binary Format, Instructions.
use Rattle.std.specs.Prelude.{ℕ, List, Option, Some}
use Rattle.std.specs.Option.{option_map, option_and_then}
use Rattle.wasm_readers.specs.WasmSpec.Values.{u32_at}

-- nothing
abbrev pub alone : {X : Type 0} → X → List ℕ → Option (X × List ℕ)
alone op bytes = Some (op, bytes)

-- an index
abbrev pub one_index : {X : Type 0} → (ℕ → X) → List ℕ → Option (X × List ℕ)
one_index op bytes = option_map (λ i. (op i.0, i.1)) (u32_at bytes)

-- two indices
abbrev pub two_indices : {X : Type 0} → (ℕ → ℕ → X) → List ℕ → Option (X × List ℕ)
two_indices op bytes = option_and_then (λ i. option_map (λ j. (op i.0 j.0, j.1)) (u32_at i.1)) (u32_at bytes)
