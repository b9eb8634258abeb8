-- What is known of flags that are set one after another.
use Rattle.std.specs.Prelude.{◌≡◌, ℕ, List, get_or, Bool, false, ◌||◌}
use Rattle.wasm_spec_validity.specs.WasmSpecSteps.WasmSpecRules.Attempts.{among}
use Rattle.wasm_validator_references.specs.References.{marked}

-- Behind the marking of some functions a flag is set where its function is one of them, or where it was set before.
abbrev pub MarkedFlagsSayNames : Type 0
MarkedFlagsSayNames = (xs : List ℕ) (flags : List Bool) (i : ℕ) → get_or (marked xs flags) i false ≡ (among i xs || get_or flags i false)
