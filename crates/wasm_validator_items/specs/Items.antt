-- What is read and typed in one pass is what the grammar reads, typed: the entries of the global, data and element sections, with their
-- constant expressions. Core Specification 3.0, Validation, Modules, and Binary Format, Modules.
use Rattle.std.specs.Prelude.{◌≡◌, ◌↔◌, ℕ, List, [], slice_get, Some, IsTrue}
use Rattle.wasm_spec.specs.Syntax.{Val, Memory, Global}
use Rattle.wasm_spec.specs.BinarySections.{GlobalEntry, Data, SegmentMode, passive, active, declarative, global_entry_at, data_at}
use Rattle.wasm_spec.specs.Features.{Features}
use Rattle.wasm_spec_rules.specs.Contexts.{Context}
use Rattle.wasm_spec_rules.specs.Parts.{Expression}
use Rattle.wasm_spec_rules.specs.SegmentRules.{index_or_first}
use Rattle.wasm_readers.specs.WrittenIndices.{written}
use Rattle.wasm_readers_types.specs.WasmReadersValues.declared.indices.UnpackedIndex.{UnpackedIndex}
use Rattle.wasm_validator_segments.specs.WasmValidatorReferences.WasmSpecValidity.WasmOperators.Control.{value_block}
use Rattle.wasm_validator_segments.specs.WasmValidatorReferences.WasmSpecValidity.WasmSpecSteps.ConstantRules.{IsConstantExpression}
use Rattle.wasm_validator_segments.specs.WasmValidatorReferences.WasmSpecValidity.WasmSpecSteps.Machine.{State}
use Rattle.wasm_validator_segments.specs.WasmValidatorReferences.WasmSpecValidity.WasmSpecSteps.Steps.{start}
use Rattle.wasm_validator_resources.specs.Answers.{world, val_in}
use Rattle.wasm_validator_segments.specs.WasmValidatorReferences.WasmSpecValidity.Expressions.{expression_at}
use Rattle.wasm_validator_segments.specs.Data.{behind_data}
use Rattle.wasm_validator_items.specs.Expressions.{around_constants, behind_expression}
use Rattle.wasm_validator_segments.specs.Globals.{with_content, typed_global_at}
use Rattle.wasm_validator_segments.specs.Offsets.{address_type}

module _ (C : Context UnpackedIndex) (F : Features) (imported : ℕ) where
  -- the bytes of an expression are a constant expression of this type
  abbrev pub IsConstantIn : Val UnpackedIndex → Expression → Type 0
  IsConstantIn v e = (last : State UnpackedIndex) × IsConstantExpression (world C) (around_constants C F) imported (start (value_block v)) e last []

  -- The bytes begin with an expression, as the grammar reads it, and it is one of this type.
  pub record IsTypedExpressionAt (v : Val UnpackedIndex) (bytes more : List ℕ) : Type 0 where
    pub expression : Expression
    pub read : expression_at bytes ≡ Some (expression, more)
    pub typed : IsConstantIn v expression

  abbrev pub ExpressionsAreTyped : Type 0
  ExpressionsAreTyped = (v : Val UnpackedIndex) (bytes more : List ℕ) → (behind_expression C F imported v bytes ≡ Some more) ↔ IsTypedExpressionAt v bytes more

  -- The bytes begin with a global, as the grammar reads it. It is this one, with the identities of the module in what it holds, and its
  -- initializer is of that type.
  pub record IsTypedGlobalAt (bytes : List ℕ) (g : Global UnpackedIndex) (more : List ℕ) : Type 0 where
    pub entry : GlobalEntry Expression UnpackedIndex
    pub read : global_entry_at expression_at written bytes ≡ Some (entry, more)
    pub content : Val UnpackedIndex
    pub resolved : val_in C F entry.ty.content ≡ Some content
    pub is : g ≡ with_content entry.ty content
    pub typed : IsConstantIn content entry.init

  abbrev pub GlobalsAreTyped : Type 0
  GlobalsAreTyped = (bytes : List ℕ) (g : Global UnpackedIndex) (more : List ℕ) → (typed_global_at C F imported bytes ≡ Some (g, more)) ↔ IsTypedGlobalAt bytes g more

  -- Nowhere, with bulk memory, or from an offset on into the memory that is there, of the type of its addresses.
  abbrev pub IsTypedDataModeIn : SegmentMode Expression → Type 0
  IsTypedDataModeIn passive = IsTrue F.bulk_memory
  IsTypedDataModeIn declarative = ⊥
  IsTypedDataModeIn (active x e) = (m : Memory) × (slice_get C.memories (index_or_first x) ≡ Some m) × IsConstantIn (address_type m.is_64) e

  -- The bytes begin with a data segment, as the grammar reads it, whose offset is typed.
  pub record IsTypedDataAt (bytes more : List ℕ) : Type 0 where
    pub segment : Data Expression
    pub read : data_at expression_at bytes ≡ Some (segment, more)
    pub typed : IsTypedDataModeIn segment.mode

  abbrev pub DataAreTyped : Type 0
  DataAreTyped = (bytes more : List ℕ) → (behind_data C F imported bytes ≡ Some more) ↔ IsTypedDataAt bytes more
