-- Expressions: a sequence of instructions and an `end`, which gives these types from none.
-- Core Specification 3.0, Validation, Instructions (Expressions), and Modules (Functions).
use Rattle.std.specs.Prelude.{ℕ, false, List, [], ◌∷◌, Some}
use Rattle.wasm_spec_steps.specs.WasmSpecRules.WasmSpec.Syntax.{Val}
use Rattle.wasm_spec_steps.specs.WasmSpecRules.WasmSpec.MatchingTests.{World}
use Rattle.wasm_operators.specs.Instructions.{Instruction}
use Rattle.wasm_spec_steps.specs.Bodies.{Surroundings}
use Rattle.wasm_spec_instructions.specs.Code.{Code, Is}
use Rattle.wasm_spec_instructions.specs.ValueTypes.{vals}
use Rattle.wasm_spec_instructions.specs.Scopes.{Scope}
use Rattle.wasm_spec_instructions.specs.Sequences.{Typed}

-- At the label of a body, and where it returns, are its results; and no local was set.
abbrev pub body_scope : {R : Type 0} → List (Val R) → Scope R
body_scope rs = record { labels = rs ∷ []; caught = false ∷ []; returns = Some rs; sets = [] }

module _ {R : Type 0} (W : World R) (B : Surroundings R) where
  -- The instructions are structured code and an `end`, and from no operands the code gives these results.
  pub record IsTypedExpression (rs : List (Val R)) (ops : List (Instruction ℕ)) : Type 0 where
    pub code : Code
    pub is : Is ops code
    pub typed : Typed W B (body_scope rs) code [] [] (vals rs)
