-- The words for what operators do.
use Rattle.std.specs.Prelude.{◌≡◌, ◌≤◌, ℕ, Bool, List, length, Option, Some, None, Result, Ok, Err}
use Rattle.wasm_validator_resources.specs.WasmSpec.Syntax.{Val}
use Rattle.wasm_validator_resources.specs.WasmSpecRules.Contexts.{Context}
use Rattle.wasm_validator_resources.specs.WasmReadersTypes.WasmReadersValues.declared.indices.UnpackedIndex.{UnpackedIndex}
use Rattle.wasm_typing_stacks.specs.WasmSpecSteps.Actions.{Action, Check, OperandTypes}
use Rattle.wasm_typing_stacks.specs.WasmSpecSteps.Meanings.{run, holds, types_at}
use Rattle.wasm_typing_stacks.specs.WasmSpecSteps.Shapes.{Shape}
use Rattle.wasm_typing_stacks.specs.WasmSpecSteps.Steps.{actions_of}
use Rattle.wasm_typing_stacks.specs.WasmSpecSteps.Machine as machine
use Rattle.wasm_typing_stacks.specs.WasmSpecSteps.Machine.{State}
use Rattle.wasm_validator_resources.specs.Answers.{world}
use Rattle.wasm_typing_stacks.specs.SeenOperands.{operand_of}
use Rattle.wasm_typing_stacks.specs.BodyStacks.{state_of, around, below}
use Rattle.wasm_typing_stacks.specs.declared.word.Word.{Word}
use Rattle.wasm_typing_stacks.specs.declared.stacks.Stacks.{Stacks}
use Rattle.wasm_typing_checks.specs.declared.faults.OperatorFault.{OperatorFault}
use Rattle.wasm_typing_checks.specs.declared.faults.OperatorError.{OperatorError}
use Rattle.wasm_typing_checks.specs.declared.faults.OperatorError.TheVariants.{Refused, OutOfMemory}

-- a look at an operand, and how many are taken then
abbrev pub Looked : Option (Word × ℕ) → Option (machine.Operand UnpackedIndex × State UnpackedIndex) → State UnpackedIndex → Type 0
Looked None o s = o ≡ None
Looked (Some p) o s = (o ≡ Some (operand_of p.0, below p.1 s)) × (p.1 ≤ length s.operands)

-- a check of operands, and how many are taken then
abbrev pub Checked : Result ℕ OperatorFault → Option (State UnpackedIndex) → State UnpackedIndex → Type 0
Checked (Ok k) o s = (o ≡ Some (below k s)) × (k ≤ length s.operands)
Checked (Err f) o s = o ≡ None

-- A step: where it is taken the machine takes it to the same state; where the code is refused the machine refuses it; and where it
-- isn't taken nothing changed.
unfoldable pub Took : Result (Unit {0}) OperatorError → Option (State UnpackedIndex) → State UnpackedIndex → State UnpackedIndex → Type 0
Took (Ok x) o old new = o ≡ Some new
Took (Err (Refused f)) o old new = (o ≡ None) × (new ≡ old)
Took (Err OutOfMemory) o old new = new ≡ old

module _ {A : Type 0} (v : Stacks A) (C : Context UnpackedIndex) where
  -- some actions from the state of the stacks, the types that a name stands for there, and whether a check holds there
  unfoldable pub acted : List Action → Option (State UnpackedIndex)
  acted actions = run (world C) (around v C) actions (state_of v)

  unfoldable pub typed : OperandTypes → Option (List (Val UnpackedIndex))
  typed t = types_at (world C) (around v C) (state_of v) t

  unfoldable pub held : Check → Bool
  held c = holds (world C) (around v C) (state_of v) c

-- a step that turns the state of some stacks into that of others as a function of states says
abbrev pub Turns : {A : Type 0} → Result (Unit {0}) OperatorError → (State UnpackedIndex → Option (State UnpackedIndex)) → Stacks A → Stacks A → Type 0
Turns r f v w = Took r (f (state_of v)) (state_of v) (state_of w)

-- a step by the actions of a shape, from the state of some stacks to that of others
abbrev pub Performs : {A : Type 0} → Result (Unit {0}) OperatorError → Context UnpackedIndex → Shape → Stacks A → Stacks A → Type 0
Performs r C shape v w = Took r (acted v C (actions_of shape)) (state_of v) (state_of w)
