-- Indices of functions that are there, one byte each.
-- Core Specification 3.0, Validation, Modules (Element Segments).
use Rattle.std.specs.Prelude.{◌≡◌, ℕ, ◌<◌, ◌≤◌, List, ◌++◌, length, get_or, Some}
use Rattle.wasm_spec_rules.specs.Contexts.{Context}
use Rattle.wasm_readers_types.specs.WasmReadersValues.declared.indices.UnpackedIndex.{UnpackedIndex}
use Rattle.wasm_validator_segments.specs.Elements.{behind_function}
use Rattle.wasm_validator_segments.specs.Lists.{behind_many}
use Rattle.wasm_validator_segments.specs.NamedFunctions.{names_of_functions}

-- none of the bytes is greater
abbrev pub AreAtMost : ℕ → List ℕ → Type 0
AreAtMost most bytes = (i : ℕ) → i < length bytes → get_or bytes i 0 ≤ most

-- whatever stands behind them, the bytes are indices of functions that are there, one each
abbrev pub AreFunctions : Context UnpackedIndex → List ℕ → Type 0
AreFunctions C bytes = (more : List ℕ) → behind_many (behind_function C) (length bytes) (bytes ++ more) ≡ Some more

-- whatever stands behind them, the bytes are the indices that they name
abbrev pub NameThemselves : List ℕ → Type 0
NameThemselves bytes = (more : List ℕ) → names_of_functions (length bytes) (bytes ++ more) ≡ bytes
