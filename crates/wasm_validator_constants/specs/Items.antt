-- Constant expressions of one reference: to a function of the module, and null.
-- Core Specification 3.0, Validation, Instructions (Reference Instructions, Constant Expressions).
use Rattle.std.specs.Prelude.{◌≡◌, ℕ, ◌<◌, ◌^◌, Bool, true, false, ◌&&◌, List, [], ◌∷◌, Some, slice_get}
use Rattle.wasm_spec.specs.Syntax.{AbstractHeap, abstract_heap, Heap, concrete, Val, reference}
use Rattle.wasm_spec.specs.BinaryTypes.{abstract_heap_from}
use Rattle.wasm_spec.specs.Features.{Features}
use Rattle.wasm_spec.specs.MatchingTests.{matches_val}
use Rattle.wasm_spec.specs.ValueTypes.{allows_val}
use Rattle.wasm_validator_resources.specs.WasmSpecRules.Attempts.{passes}
use Rattle.wasm_validator_resources.specs.WasmSpecRules.Contexts.{Context}
use Rattle.wasm_validator_resources.specs.WasmReadersTypes.WasmReadersValues.declared.indices.UnpackedIndex.{UnpackedIndex}
use Rattle.wasm_operators.specs.Control.{value_block, end_}
use Rattle.wasm_operators.specs.Instructions.{control, instruction_at}
use Rattle.wasm_typing_validator.specs.WasmSpecSteps.Bodies.{Surroundings}
use Rattle.wasm_typing_validator.specs.WasmSpecSteps.ConstantRules.{IsConstantExpression}
use Rattle.wasm_typing_validator.specs.WasmSpecSteps.Machine.{State}
use Rattle.wasm_typing_validator.specs.WasmSpecSteps.Steps.{start}
use Rattle.wasm_validator_resources.specs.Answers.{world}

-- The bytes begin with null of the heap type that this byte stands for alone, and the end of an expression.
pub record IsNull (b : ℕ) (bytes more : List ℕ) : Type 0 where
  pub second : List ℕ
  pub null : bytes ≡ 0xd0 ∷ b ∷ second
  pub ended : instruction_at (λ n. n) second ≡ Some (control end_, more)

abbrev pub to_heap : Bool → Heap UnpackedIndex → Val UnpackedIndex
to_heap nullable h = reference (record { nullable = nullable; heap = h })

-- a reference to what the type describes that this identity stands for; and null of an abstract heap type
abbrev pub to_type : UnpackedIndex → Val UnpackedIndex
to_type a = to_heap false (concrete a)

abbrev pub null_of : AbstractHeap → Val UnpackedIndex
null_of k = to_heap true (abstract_heap false k)

module _ (C : Context UnpackedIndex) where
  -- References to the functions whose type has this index are of this type.
  abbrev pub TakesType : Val UnpackedIndex → ℕ → Type 0
  TakesType v t = passes (λ a. matches_val (world C) (to_type a) v) (slice_get C.types t) ≡ true

  -- It is known to be so of this type index, or the number is none.
  abbrev pub KnowsType : Val UnpackedIndex → ℕ → Type 0
  KnowsType v n = n < 2 ^ 32 → TakesType v n

  module _ (F : Features) where
    -- The features allow null of the abstract heap type of this byte, and it is of this type.
    abbrev pub TakesNull : Val UnpackedIndex → ℕ → Type 0
    TakesNull v b = passes (λ k. allows_val F (null_of k) && matches_val (world C) (null_of k) v) (abstract_heap_from b) ≡ true

    abbrev pub KnowsNull : Val UnpackedIndex → ℕ → Type 0
    KnowsNull v n = n < 2 ^ 32 → TakesNull v n

    -- what the expression is checked in: it has no locals, and isn't shared
    abbrev pub around_items : Surroundings UnpackedIndex
    around_items = record { features = F; context = C; locals = []; shared = false }

    -- However many globals are imported, the bytes begin with a constant expression of this type, and these are behind it.
    pub record IsItem (v : Val UnpackedIndex) (bytes more : List ℕ) : Type 0 where
      pub last : State UnpackedIndex
      pub is : (imported : ℕ) → IsConstantExpression (world C) around_items imported (start (value_block v)) bytes last more
