-- The way through the bytes of a constant expression, one instruction after another.
-- Core Specification 3.0, Validation, Instructions (Constant Expressions), and Binary Format, Instructions (Expressions).
use Rattle.std.specs.Prelude.{◌≡◌, ℕ, zero, suc, if◌then◌else◌, List, [], ◌++◌, length, Option, Some, None}
use Rattle.std.specs.Option.{option_and_then}
use Rattle.wasm_spec.specs.MatchingTests.{World}
use Rattle.wasm_operators.specs.Instructions.{Instruction, instruction_at}
use Rattle.wasm_typing_validator.specs.WasmSpecSteps.Bodies.{Surroundings}
use Rattle.wasm_typing_validator.specs.WasmSpecSteps.ConstantRules.{is_allowed, IsConstantExpression}
use Rattle.wasm_typing_validator.specs.WasmSpecSteps.Machine.{State}
use Rattle.wasm_typing_validator.specs.WasmSpecSteps.Steps.{step_in, is_finished}
use Rattle.wasm_validator_references.specs.WasmSpecValidity.Expressions.{functions_named}

module _ {R : Type 0} (W : World R) (B : Surroundings R) (imported : ℕ) where
  -- one instruction
  unfoldable pub constant_step : Instruction ℕ → State R → Option (State R)
  constant_step op s = if is_allowed B imported op then step_in W B op s else None

  -- at most so many instructions, until no frame is left
  abbrev pub typed_from : ℕ → State R → List ℕ → Option (State R × List ℕ)
  typed_from zero s bytes = if is_finished s then Some (s, bytes) else None
  typed_from (suc most) s bytes =
      if is_finished s then Some (s, bytes)
      else option_and_then (λ i. option_and_then (λ t. typed_from most t i.1) (constant_step i.0 s)) (instruction_at (λ n. n) bytes)

  -- the state behind the expression that the bytes begin with, and the bytes behind it; each instruction takes at least a byte
  unfoldable pub constant_from : State R → List ℕ → Option (State R × List ℕ)
  constant_from s bytes = typed_from (length bytes) s bytes

  -- the functions that the instructions of this way name
  abbrev pub named_from : ℕ → State R → List ℕ → List ℕ
  named_from zero s bytes = []
  named_from (suc most) s bytes =
      if is_finished s then []
      else elim (instruction_at (λ n. n) bytes) [ None ↦ [] | Some i ↦ functions_named i.0 ++ (elim (constant_step i.0 s) [ None ↦ [] | Some t ↦ named_from most t i.1 ]) ]

  unfoldable pub constant_names : State R → List ℕ → List ℕ
  constant_names s bytes = named_from (length bytes) s bytes

  -- The code's way through the bytes finds just these.
  abbrev pub FindsConstants : Type 0
  FindsConstants = (s : State R) (bytes : List ℕ) (t : State R) (more : List ℕ) → constant_from s bytes ≡ Some (t, more) → IsConstantExpression W B imported s bytes t more

  abbrev pub ConstantsAreFound : Type 0
  ConstantsAreFound = (s : State R) (bytes : List ℕ) (t : State R) (more : List ℕ) → IsConstantExpression W B imported s bytes t more → constant_from s bytes ≡ Some (t, more)
