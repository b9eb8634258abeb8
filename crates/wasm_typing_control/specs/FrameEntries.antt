-- A frame that is opened over what it takes.
use Rattle.std.specs.Prelude.{List, Option, Some}
use Rattle.wasm_readers_types.specs.WasmSpec.Syntax.{Val}
use Rattle.wasm_readers_types.specs.WasmSpec.MatchingTests.{World}
use Rattle.wasm_readers_types.specs.WasmReadersValues.declared.indices.UnpackedIndex.{UnpackedIndex}
use Rattle.wasm_typing_numbers.specs.WasmOperators.Control.{Block}
use Rattle.wasm_typing_numbers.specs.WasmTypingChecks.WasmValidatorResources.WasmSpecRules.Attempts.{◌>>=◌}
use Rattle.wasm_typing_numbers.specs.WasmSpecSteps.Machine.{Kind, State, pop_vals, push_frame}

unfoldable pub entered : World UnpackedIndex → Kind → Block UnpackedIndex → List (Val UnpackedIndex) → State UnpackedIndex → Option (State UnpackedIndex)
entered W k b vs s = pop_vals W vs s >>= λ t. Some (push_frame k b vs t)
