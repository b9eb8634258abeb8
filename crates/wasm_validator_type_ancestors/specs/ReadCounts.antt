-- The supertype links and entries of lists of ancestors that are read to see whether one type is below another.
use Rattle.std.specs.Prelude.{ℕ, ◌+◌, ◌<◌, ◌≤◌, Option}
use Rattle.wasm_validator_type_groups.specs.WasmSpec.Syntax.{Sub}
use Rattle.wasm_validator_type_groups.specs.WasmSpec.SupertypeOrder.{IsDepth, Links}

-- The count grows by no more than the links that are followed from a to find b, and by one at least where a has more
-- proper ancestors than b.
pub record Counts (D : ℕ → Option (Sub ℕ)) (a b old new : ℕ) : Type 0 where
  pub grows : old ≤ new
  pub few : (links : ℕ) → Links D a b links → new ≤ old + links
  pub read : (m n : ℕ) → IsDepth D a m → IsDepth D b n → n < m → old < new
