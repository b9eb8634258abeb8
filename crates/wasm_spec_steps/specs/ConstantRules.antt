-- Constant expressions: each instruction is one that a constant expression may have, and is typed behind those before it.
-- Core Specification 3.0, Validation, Instructions (Constant Expressions), and Binary Format, Instructions (Expressions).
use Rattle.std.specs.Prelude.{◌≡◌, ℕ, Bool, true, false, not, nat_lt, ◌&&◌, ◌||◌, List, slice_get, Option, Some, None}
use Rattle.std.specs.List.{All}
use Rattle.wasm_spec_rules.specs.WasmSpec.Syntax.{Global}
use Rattle.wasm_spec_rules.specs.WasmSpec.Features.{Features}
use Rattle.wasm_spec_rules.specs.WasmSpec.MatchingTests.{World}
use Rattle.wasm_operators.specs.Instructions.{Instruction, variable}
use Rattle.wasm_operators.specs.WasmOperatorsPlain.declared.variables.VariableOperator.TheVariants.{GlobalGet}
use Rattle.wasm_spec_steps.specs.Bodies.{Surroundings}
use Rattle.wasm_spec_steps.specs.Machine.{State}
use Rattle.wasm_spec_steps.specs.ConstantExpressions.{is_constant}
use Rattle.wasm_spec_steps.specs.Steps.{steps_in, is_finished}
use Rattle.wasm_spec_steps.specs.Sequences.{Are}

-- A global may be read if it is there, is immutable, and is imported or else `gc` is on. The imported ones come first.
abbrev pub may_be_read : {R : Type 0} → Features → ℕ → ℕ → Option (Global R) → Bool
may_be_read F imported x None = false
may_be_read F imported x (Some g) = not g.mutable && (F.gc || nat_lt x imported)

abbrev pub is_readable : {R : Type 0} → Features → ℕ → List (Global R) → Instruction ℕ → Bool
is_readable F imported globals (variable (GlobalGet x)) = may_be_read F imported x (slice_get globals x)
is_readable F imported globals _ = true

-- whether the instruction may stand in a constant expression
abbrev pub is_allowed : {R : Type 0} → Surroundings R → ℕ → Instruction ℕ → Bool
is_allowed B imported op = is_constant B.features op && is_readable B.features imported B.context.globals op

module _ {R : Type 0} (W : World R) (B : Surroundings R) (imported : ℕ) where
  -- The bytes begin with instructions that a constant expression may have, and these lead from one state to another, in which no
  -- frame is left.
  pub record IsConstantExpression (s : State R) (bytes : List ℕ) (t : State R) (more : List ℕ) : Type 0 where
    pub instructions : List (Instruction ℕ)
    pub written : Are instructions bytes more
    pub allowed : All (λ op. is_allowed B imported op ≡ true) instructions
    pub typed : steps_in W B instructions s ≡ Some t
    pub finished : is_finished t ≡ true
