-- The words for fast steps.
use Rattle.std.specs.Prelude.{◌≡◌, ◌≤◌, ℕ, length, Option, Some, Result, Ok, Err, ⊤}
use Rattle.wasm_typing_numbers.specs.WasmTypingChecks.WasmSpecRules.Contexts.{Context}
use Rattle.wasm_readers_types.specs.WasmReadersValues.declared.indices.UnpackedIndex.{UnpackedIndex}
use Rattle.wasm_typing_numbers.specs.WasmTypingChecks.WasmSpecSteps.Machine.{State}
use Rattle.wasm_typing_numbers.specs.WasmTypingChecks.WasmSpecSteps.Shapes.{Shape}
use Rattle.wasm_typing_numbers.specs.WasmTypingChecks.WasmSpecSteps.Steps.{actions_of}
use Rattle.wasm_typing_numbers.specs.WasmTypingChecks.WasmTypingStacks.BodyStacks.{state_of, below}
use Rattle.wasm_typing_numbers.specs.WasmTypingChecks.WasmTypingStacks.declared.stacks.Stacks.{Stacks}
use Rattle.wasm_typing_numbers.specs.WasmTypingChecks.Steps.{acted}
use Rattle.wasm_typing_control.specs.declared.not_taken.NotTaken.{NotTaken}

-- operands that were looked for, and how many they are
abbrev pub Peeked : Result ℕ NotTaken → Option (State UnpackedIndex) → State UnpackedIndex → Type 0
Peeked (Ok k) o s = (o ≡ Some (below k s)) × (k ≤ length s.operands)
Peeked (Err e) o s = ⊤

-- A fast step: where it is taken the machine takes it to the same state; where it isn't nothing changed.
unfoldable pub Fast : Result (Unit {0}) NotTaken → Option (State UnpackedIndex) → State UnpackedIndex → State UnpackedIndex → Type 0
Fast (Ok x) o old new = o ≡ Some new
Fast (Err e) o old new = new ≡ old

-- a fast step by the actions of a shape, from the state of some stacks to that of others
abbrev pub Performs : {A : Type 0} → Result (Unit {0}) NotTaken → Context UnpackedIndex → Shape → Stacks A → Stacks A → Type 0
Performs r C shape v w = Fast r (acted v C (actions_of shape)) (state_of v) (state_of w)
