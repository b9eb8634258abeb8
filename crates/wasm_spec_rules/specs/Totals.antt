-- How many types a validator keeps at the end of a run of modules, where each written type is kept.
use Rattle.std.specs.Prelude.{ℕ, ◌≡◌, ◌+◌, List, [], ◌∷◌, ◌++◌, length}
use Rattle.std.specs.List.{flat_map}
use Rattle.wasm_readers_errors.specs.WasmSpec.Syntax.{Rec, Sub}
use Rattle.wasm_spec_rules.specs.Parts.{Parts}

-- the types that a module writes
abbrev pub written_types : Parts → List (Sub ℕ)
written_types parts = flat_map (λ (g : Rec ℕ). g.types) parts.groups

-- those that are kept before, and those of all modules
abbrev pub total : ℕ → List Parts → ℕ
total before [] = before
total before (parts ∷ more) = total (before + length (written_types parts)) more

-- A run of modules behind another begins with what that one keeps.
abbrev pub TotalsGoOn : Type 0
TotalsGoOn = (before : ℕ) (run more : List Parts) → total before (run ++ more) ≡ total (total before run) more
