-- What arrays are filled from.
use Rattle.std.specs.Prelude.{ℕ, Bool, slice_get}
use Rattle.wasm_spec.specs.MatchingTests.{matches_val}
use Rattle.wasm_spec.specs.Syntax.{Val, reference}
use Rattle.wasm_typing_checks.specs.WasmSpecRules.Contexts.{Context}
use Rattle.wasm_readers_types.specs.WasmReadersValues.declared.indices.UnpackedIndex.{UnpackedIndex}
use Rattle.wasm_typing_checks.specs.WasmSpecRules.Attempts.{passes}
use Rattle.wasm_typing_checks.specs.WasmValidatorResources.Answers.{world}

-- an element segment is there, and its references are of a type
abbrev pub segment_matches : Context UnpackedIndex → ℕ → Val UnpackedIndex → Bool
segment_matches C n v = passes (λ r. matches_val (world C) (reference r) v) (slice_get C.elements n)
