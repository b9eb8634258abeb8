-- Constant expressions of a type, in a module's context.
-- Core Specification 3.0, Validation, Instructions (Constant Expressions), and Binary Format, Instructions (Expressions).
use Rattle.std.specs.Prelude.{◌≡◌, ◌↔◌, ℕ, false, List, [], Option, Some}
use Rattle.std.specs.Option.{option_map}
use Rattle.wasm_spec.specs.Syntax.{Val}
use Rattle.wasm_spec.specs.Features.{Features}
use Rattle.wasm_spec_rules.specs.Contexts.{Context}
use Rattle.wasm_readers_types.specs.WasmReadersValues.declared.indices.UnpackedIndex.{UnpackedIndex}
use Rattle.wasm_operators.specs.Control.{value_block}
use Rattle.wasm_spec_steps.specs.Bodies.{Surroundings}
use Rattle.wasm_spec_steps.specs.Machine.{State}
use Rattle.wasm_spec_steps.specs.Steps.{start}
use Rattle.wasm_validator_resources.specs.Answers.{world}
use Rattle.wasm_validator_constants.specs.WasmTypingStacks.BodyStacks.{surroundings}
use Rattle.wasm_validator_constants.specs.Constants.{constant_from}
use Rattle.wasm_spec_steps.specs.ConstantRules.{IsConstantExpression}

-- what an expression is checked in: it has no locals, and isn't shared
abbrev pub around_constants : Context UnpackedIndex → Features → Surroundings UnpackedIndex
around_constants C F = surroundings F false C []

module _ (C : Context UnpackedIndex) (F : Features) (imported : ℕ) where
  -- the bytes behind the expression of this type that the bytes begin with, if they do
  unfoldable pub behind_expression : Val UnpackedIndex → List ℕ → Option (List ℕ)
  behind_expression v bytes = option_map (λ x. x.1) (constant_from (world C) (around_constants C F) imported (start (value_block v)) bytes)

  -- The bytes begin with a constant expression of this type, and these are behind it: from a frame that gives one value of the type, its
  -- instructions lead to a state in which no frame is left.
  pub record IsExpressionOf (v : Val UnpackedIndex) (bytes more : List ℕ) : Type 0 where
    pub last : State UnpackedIndex
    pub is : IsConstantExpression (world C) (around_constants C F) imported (start (value_block v)) bytes last more

  -- The way through the bytes finds just these.
  abbrev pub ExpressionsAreFound : Type 0
  ExpressionsAreFound = (v : Val UnpackedIndex) (bytes more : List ℕ) → (behind_expression v bytes ≡ Some more) ↔ IsExpressionOf v bytes more
