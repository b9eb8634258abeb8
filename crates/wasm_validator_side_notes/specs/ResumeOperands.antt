-- How many operands an instruction takes that resumes a continuation.
use Rattle.std.specs.Prelude.{◌≡◌, ℕ, length, Some}
use Rattle.std.specs.Option.{option_map}
use Rattle.wasm_spec_rules.specs.Contexts.{Context}
use Rattle.wasm_readers_types.specs.WasmReadersValues.declared.indices.UnpackedIndex.{UnpackedIndex}
use Rattle.wasm_operators.specs.Continuations.{Continuation}
use Rattle.wasm_spec_steps.specs.Actions.{OperandTypes}
use Rattle.wasm_spec_steps.specs.Meanings.{types_at}
use Rattle.wasm_spec_steps.specs.Shapes.{continuation_shape}
use Rattle.wasm_validator_resources.specs.Answers.{world}
use Rattle.wasm_validator_func.specs.WasmTypingValidator.WasmTypingArity.Arities.{arity}
use Rattle.wasm_validator_func.specs.WasmTypingValidator.ModuleAnswers.{asked_in}
use Rattle.wasm_validator_func.specs.WasmTypingValidator.BodyTyping.{typed_state}
use Rattle.wasm_validator_func.specs.WasmTypingValidator.TypedInstructions.{within}
use Rattle.wasm_validator_func.specs.WasmTypingValidator.declared.validator.OperatorValidator.{OperatorValidator}

module _ {A : Type 0} (C : Context UnpackedIndex) (v : OperatorValidator A) (t : OperandTypes) where
  -- types that are named so are there, and so many
  abbrev pub AreSoMany : ℕ → Type 0
  AreSoMany n = option_map length (types_at (world C) (within v C) (typed_state v) t) ≡ Some n

  -- as many as the arity of an instruction says that it takes
  abbrev pub AreTaken : Continuation → Type 0
  AreTaken op = (n g : ℕ) → arity (asked_in v.stacks C) (continuation_shape op) ≡ Some (n, g) → AreSoMany n
