-- Reading an instruction and taking its step.
use Rattle.std.specs.Prelude.{◌≡◌, ℕ, List, Option, Some, None, Result, Ok, Err}
use Rattle.wasm_typing_fast.specs.WasmSpec.MatchingTests.{World}
use Rattle.wasm_typing_fast.specs.WasmTypingControl.WasmTypingChecks.WasmSpecRules.Contexts.{Context}
use Rattle.wasm_typing_fast.specs.WasmReadersBytes.Reader.{rest}
use Rattle.wasm_typing_fast.specs.WasmReadersBytes.declared.binary_reader.BinaryReader.{BinaryReader}
use Rattle.wasm_typing_fast.specs.WasmOperatorsPlain.WasmReaders.WrittenIndices.{written}
use Rattle.wasm_typing_fast.specs.WasmReadersValues.declared.indices.UnpackedIndex.{UnpackedIndex}
use Rattle.wasm_typing_fast.specs.WasmOperators.Instructions.{Instruction, instruction_at, plain_from}
use Rattle.wasm_typing_fast.specs.WasmOperators.Maps.{map_instruction}
use Rattle.wasm_typing_fast.specs.WasmTypingControl.WasmTypingChecks.WasmSpecRules.Attempts.{◌>>=◌}
use Rattle.wasm_typing_fast.specs.WasmTypingControl.WasmTypingChecks.WasmSpecSteps.Bodies.{Surroundings}
use Rattle.wasm_typing_fast.specs.WasmTypingControl.WasmTypingChecks.WasmSpecSteps.Machine.{State}
use Rattle.wasm_typing_fast.specs.WasmTypingControl.WasmTypingChecks.WasmSpecSteps.Shapes.{shape_of}
use Rattle.wasm_typing_fast.specs.WasmTypingControl.WasmTypingChecks.WasmSpecSteps.Steps.{step_in, actions_of}
use Rattle.wasm_typing_fast.specs.WasmTypingControl.WasmTypingChecks.WasmValidatorResources.Answers.{written_index}
use Rattle.wasm_typing_fast.specs.WasmTypingControl.WasmTypingChecks.WasmTypingStacks.BodyStacks.{state_of}
use Rattle.wasm_typing_fast.specs.WasmTypingControl.WasmTypingChecks.WasmTypingStacks.declared.stacks.Stacks.{Stacks}
use Rattle.wasm_typing_fast.specs.WasmTypingControl.WasmTypingChecks.Steps.{acted}
use Rattle.wasm_typing_fast.specs.WasmTypingControl.declared.not_taken.NotTaken.{NotTaken}
use Rattle.wasm_typing_steps.specs.declared.told.Told.{Told}
use Rattle.wasm_typing_steps.specs.ToldSteps.{OnTaken, OnLeft}

-- the step of an instruction that was read, and the bytes behind it
abbrev pub step_read : World UnpackedIndex → Surroundings UnpackedIndex → State UnpackedIndex → Option (Instruction UnpackedIndex × List ℕ) → Option (State UnpackedIndex × List ℕ)
step_read W B s None = None
step_read W B s (Some p) = step_in W B (map_instruction written_index p.0) s >>= λ t. Some (t, p.1)

-- the step of the instruction at the front of these bytes, and the bytes behind it
unfoldable pub step_at : World UnpackedIndex → Surroundings UnpackedIndex → State UnpackedIndex → List ℕ → Option (State UnpackedIndex × List ℕ)
step_at W B s bytes = step_read W B s (instruction_at written bytes)

-- an instruction that was read, performed by its actions in a frame that is open, and the bytes behind it
abbrev pub performed : {A : Type 0} → Stacks A → Context UnpackedIndex → Option (Instruction UnpackedIndex × List ℕ) → Option (State UnpackedIndex × List ℕ)
performed v C None = None
performed v C (Some p) = acted v C (actions_of (shape_of (map_instruction written_index p.0))) >>= λ t. Some (t, p.1)

-- the same of the instruction of an opcode below fb, with these bytes behind
unfoldable pub performed_from : {A : Type 0} → Stacks A → Context UnpackedIndex → ℕ → List ℕ → Option (State UnpackedIndex × List ℕ)
performed_from v C b bytes = performed v C (plain_from written b bytes)

-- a fast step that was read: where it is taken the machine takes it to the same state, with the same bytes behind; where it isn't
-- nothing changed
unfoldable pub Fused : Result (Unit {0}) NotTaken → Option (State UnpackedIndex × List ℕ) → State UnpackedIndex → State UnpackedIndex → List ℕ → Type 0
Fused (Ok x) o old new bytes = o ≡ Some (new, bytes)
Fused (Err e) o old new bytes = new ≡ old

-- the same of a step that is told
unfoldable pub FusedAs : Told → Option (State UnpackedIndex × List ℕ) → State UnpackedIndex → State UnpackedIndex → List ℕ → Type 0
FusedAs t o old new bytes = OnTaken t (o ≡ Some (new, bytes)) × OnLeft t (new ≡ old)

-- the same of the instruction of an opcode below fb, from where a reader stands and from the state of some stacks
abbrev pub Fuses : {A : Type 0} → Result (Unit {0}) NotTaken → Context UnpackedIndex → ℕ → BinaryReader → Stacks A → BinaryReader → Stacks A → Type 0
Fuses r C b from v to w = Fused r (performed_from v C b (rest from)) (state_of v) (state_of w) (rest to)

abbrev pub FusesAs : {A : Type 0} → Told → Context UnpackedIndex → ℕ → BinaryReader → Stacks A → BinaryReader → Stacks A → Type 0
FusesAs t C b from v to w = FusedAs t (performed_from v C b (rest from)) (state_of v) (state_of w) (rest to)
