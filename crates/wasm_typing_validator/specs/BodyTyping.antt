-- What contracts see of the typing of a body or a constant expression.
-- Core Specification 3.0, Validation, Modules (Functions), and Appendix, Validation Algorithm.
use Rattle.std.specs.Prelude.{◌≡◌, ◌≤◌, ◌<◌, ◌+◌, ◌++◌, ◌⊎◌, ℕ, true, false, List, [], map, length, replicate, Option, Some, None, Result, Ok, Err, ⊤}
use Rattle.std.specs.Option.{option_map}
use Rattle.wasm_typing_families.specs.WasmTypingBlocks.WasmTypingChecks.WasmSpecRules.WasmSpec.Syntax.{Val}
use Rattle.wasm_typing_families.specs.WasmTypingBlocks.WasmTypingChecks.WasmSpecRules.Contexts.{Context}
use Rattle.wasm_readers_types.specs.WasmReadersValues.declared.indices.UnpackedIndex.{UnpackedIndex}
use Rattle.wasm_operators.specs.Control.{value_block, func_block}
use Rattle.wasm_typing_families.specs.WasmTypingBlocks.WasmTypingChecks.WasmSpecSteps.Bodies.{Local}
use Rattle.wasm_typing_families.specs.WasmTypingBlocks.WasmTypingChecks.WasmSpecSteps.Machine.{State}
use Rattle.wasm_typing_families.specs.WasmTypingBlocks.WasmTypingChecks.WasmSpecRules.Signatures.{Signature}
use Rattle.wasm_typing_families.specs.WasmTypingBlocks.WasmTypingChecks.WasmSpecRules.Limits.{most_locals}
use Rattle.wasm_typing_families.specs.WasmTypingBlocks.WasmTypingChecks.WasmSpecSteps.Meanings.{has_default}
use Rattle.wasm_typing_families.specs.WasmTypingBlocks.WasmTypingChecks.WasmSpecSteps.Steps.{start}
use Rattle.wasm_typing_families.specs.WasmTypingBlocks.WasmTypingChecks.WasmValidatorResources.Answers.{sub_in}
use Rattle.wasm_typing_families.specs.WasmTypingBlocks.WasmTypingChecks.WasmTypingStacks.BodyStacks.{state_of}
use Rattle.wasm_typing_families.specs.WasmTypingSteps.WasmTypingControl.Blocks.{function_in}
use Rattle.wasm_typing_families.specs.WasmTypingBlocks.WasmTypingChecks.declared.faults.OperatorError.{OperatorError}
use Rattle.wasm_typing_families.specs.WasmTypingBlocks.WasmTypingChecks.declared.faults.OperatorError.TheVariants.{Refused, OutOfMemory}
use Rattle.wasm_typing_validator.specs.declared.validator.OperatorValidator.{OperatorValidator}

-- the operands, frames and set locals
abbrev pub typed_state : {A : Type 0} → OperatorValidator A → State UnpackedIndex
typed_state v = state_of v.stacks

-- the locals
abbrev pub locals_in : {A : Type 0} → OperatorValidator A → List (Local UnpackedIndex)
locals_in v = v.stacks.locals.content

-- a parameter is set from the start, and a declared local where its type has a default
abbrev pub parameter : Val UnpackedIndex → Local UnpackedIndex
parameter v = record { content = v; set = true }

abbrev pub declared_local : Val UnpackedIndex → Local UnpackedIndex
declared_local v = record { content = v; set = has_default v }

module _ {A : Type 0} (v : OperatorValidator A) where
  -- the start of the body of the function type of this type index, before its locals are declared
  pub record BeginsBody (C : Context UnpackedIndex) (n : ℕ) : Type 0 where
    pub state : typed_state v ≡ start (func_block n)
    pub locals : Some (locals_in v) ≡ option_map (λ g. map parameter g.takes) (function_in C n)
    pub shared : Some v.stacks.is_shared ≡ option_map (λ d. d.shared) (sub_in C n)
    pub not_failed : v.failed ≡ false

  -- the start of a constant expression of this type
  pub record BeginsConstant (t : Val UnpackedIndex) : Type 0 where
    pub state : typed_state v ≡ start (value_block t)
    pub locals : locals_in v ≡ []
    pub shared : v.stacks.is_shared ≡ false
    pub not_failed : v.failed ≡ false

-- A refusal at the start of a body: its function has more parameters than a body may have locals.
abbrev pub HasMany : {X : Type 0} → Result X OperatorError → Option (Signature UnpackedIndex) → Type 0
HasMany (Ok x) g = ⊤
HasMany (Err (Refused f)) None = ⊥
HasMany (Err (Refused f)) (Some g) = most_locals < length g.takes
HasMany (Err OutOfMemory) g = ⊤

-- a refusal, and not want of memory
abbrev pub IsRefused : OperatorError → Type 0
IsRefused (Refused f) = ⊤
IsRefused OutOfMemory = ⊥

-- So many locals more of the type that is resolved so, where there is one and there is room; else a refusal, and the locals stay.
abbrev pub Defines : {A : Type 0} → Result (Unit {0}) OperatorError → Option (Val UnpackedIndex) → ℕ → OperatorValidator A → OperatorValidator A → Type 0
Defines (Ok x) (Some t) n v w = (v.failed ≡ false) × (length (locals_in v) + n ≤ most_locals) × (locals_in w ≡ locals_in v ++ replicate n (declared_local t))
Defines (Ok x) None n v w = ⊥
Defines (Err (Refused f)) o n v w = (locals_in w ≡ locals_in v) × (v.failed ≡ false → (o ≡ None) ⊎ (most_locals < length (locals_in v) + n))
Defines (Err OutOfMemory) o n v w = ⊤
