-- What exceptions hold, and what catch clauses send to labels.
use Rattle.std.specs.Prelude.{ℕ, Bool, ◌==◌, List, length, Option, false}
use Rattle.wasm_spec.specs.Syntax.{Val, reference, abstract_heap, exn_heap}
use Rattle.wasm_spec_rules.specs.Contexts.{Context}
use Rattle.wasm_readers_types.specs.WasmReadersValues.declared.indices.UnpackedIndex.{UnpackedIndex}
use Rattle.wasm_typing_control.specs.WasmTypingChecks.WasmSpecSteps.Actions.{label}
use Rattle.wasm_spec_rules.specs.Attempts.{◌>>=◌, guard, passes}
use Rattle.wasm_typing_control.specs.WasmTypingChecks.WasmSpecSteps.Matching.{matches_vals}
use Rattle.wasm_typing_control.specs.WasmTypingChecks.WasmSpecSteps.Meanings.{types_at}
use Rattle.wasm_typing_control.specs.WasmTypingChecks.WasmValidatorResources.Answers.{world, tag_in}
use Rattle.wasm_typing_control.specs.WasmTypingChecks.WasmTypingStacks.BodyStacks.{state_of, around}
use Rattle.wasm_typing_control.specs.WasmTypingChecks.WasmTypingStacks.declared.stacks.Stacks.{Stacks}

-- what an exception of a tag holds, where it is a tag of exceptions
abbrev pub thrown_in : Context UnpackedIndex → ℕ → Option (List (Val UnpackedIndex))
thrown_in C n = tag_in C n >>= λ g. guard (length g.gives == 0) g.takes

-- a reference to an exception
abbrev pub exception_val : Val UnpackedIndex
exception_val = reference (record { nullable = false; heap = abstract_heap false exn_heap })

-- whether each of these types matches that of a label
unfoldable pub sends : {A : Type 0} → Stacks A → Context UnpackedIndex → List (Val UnpackedIndex) → ℕ → Bool
sends v C vs n = passes (matches_vals (world C) vs) (types_at (world C) (around v C) (state_of v) (label n))
