-- What constant expressions see of their context, and that no verdict on them depends on the identities of types.
-- Core Specification 3.0, Validation, Instructions (Constant Expressions), and Validation, Modules.
use Rattle.std.specs.Prelude.{◌≡◌, ℕ, true, List}
use Rattle.wasm_spec.specs.Features.{Features}
use Rattle.wasm_spec.specs.MatchingTests.{World}
use Rattle.wasm_spec_steps.specs.WasmSpecRules.Contexts.{Context}
use Rattle.wasm_operators.specs.Instructions.{Instruction}
use Rattle.wasm_spec_steps.specs.Bodies.{Surroundings, map_surroundings}
use Rattle.wasm_spec_steps.specs.ConstantExpressions.{is_constant}
use Rattle.wasm_spec_steps.specs.ConstantRules.{IsConstantExpression}
use Rattle.wasm_spec_steps.specs.Machine.{State, map_state}
use Rattle.wasm_spec_steps.specs.Renaming.{Renames}
use Rattle.wasm_spec_steps.specs.Steps.{step_in}

-- the same features, locals, types, functions, globals and references, with all else from another context
abbrev pub elsewhere : {R : Type 0} → Surroundings R → Context R → Surroundings R
elsewhere B D =
    record B { context = record D { types = B.context.types; functions = B.context.functions; exact = B.context.exact; globals = B.context.globals; references = B.context.references } }

-- What a constant expression may have sees the types, the functions and the globals of its context alone: not its tables, memories, tags
-- and segments, and what types declare through the world.
pub record SeesLittle {R : Type 0} (W : World R) (B : Surroundings R) (D : Context R) : Type 0 where
  pub step : (F : Features) (op : Instruction ℕ) (s : State R) → is_constant F op ≡ true → step_in W (elsewhere B D) op s ≡ step_in W B op s
  pub expression : (imported : ℕ) (s : State R) (bytes : List ℕ) (t : State R) (more : List ℕ) → IsConstantExpression W B imported s bytes t more → IsConstantExpression W (elsewhere B D) imported s bytes t more

abbrev pub ConstantsSeeLittle : (R : Type 0) → Type 0
ConstantsSeeLittle R = (W : World R) (B : Surroundings R) (D : Context R) → SeesLittle W B D

-- Where one world is another with each identity renamed, constant expressions are those of the other, renamed, in any context that has the
-- renamed types, functions and globals.
pub record ConstantsAreRenamed {R S : Type 0} (f : R → S) (W : World R) (V : World S) (B : Surroundings R) (D : Context S) (imported : ℕ) (s : State R) (bytes more : List ℕ) : Type 0 where
  pub there : (t : State R) → IsConstantExpression W B imported s bytes t more → IsConstantExpression V (elsewhere (map_surroundings f B) D) imported (map_state f s) bytes (map_state f t) more
  pub back : (u : State S) → IsConstantExpression V (elsewhere (map_surroundings f B) D) imported (map_state f s) bytes u more → (t : State R) × IsConstantExpression W B imported s bytes t more × (map_state f t ≡ u)

abbrev pub ConstantsRename : (R S : Type 0) → Type 0
ConstantsRename R S =
    (f : R → S) (W : World R) (V : World S) → Renames f W V → (B : Surroundings R) (D : Context S) (imported : ℕ) (s : State R) (bytes more : List ℕ) → ConstantsAreRenamed f W V B D imported s bytes more
