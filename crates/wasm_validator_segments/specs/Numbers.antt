-- Constant expressions of one integer, which are the same in each module.
-- Core Specification 3.0, Validation, Instructions (Numeric Instructions, Constant Expressions).
use Rattle.std.specs.Prelude.{◌≡◌, ℕ, List, Some}
use Rattle.wasm_spec.specs.Syntax.{Val}
use Rattle.wasm_spec.specs.Features.{Features}
use Rattle.wasm_spec_rules.specs.Contexts.{Context}
use Rattle.wasm_readers_types.specs.WasmReadersValues.declared.indices.UnpackedIndex.{UnpackedIndex}
use Rattle.wasm_validator_segments.specs.Expressions.{behind_expression}

-- In any module the bytes begin with a constant expression of this type, and these are behind it.
abbrev pub IsAnywhere : Val UnpackedIndex → List ℕ → List ℕ → Type 0
IsAnywhere v bytes more = (C : Context UnpackedIndex) (F : Features) (imported : ℕ) → behind_expression C F imported v bytes ≡ Some more
