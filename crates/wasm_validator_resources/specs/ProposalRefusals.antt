-- What the rules ask of a type of the proposals, in order, and so what a refusal says: the first that is needed and off,
-- with its fault. Core Specification 3.0, Validation, Types (Reference Types, Value Types, Composite Types), and the
-- proposals by which each type came.
use Rattle.std.specs.Prelude.{ℕ, Bool, true, not, List, [], ◌∷◌, Option, None, length, nat_lt}
use Rattle.std.specs.Option.{option_or}
use Rattle.wasm_readers_errors.specs.WasmSpec.Syntax.{AbstractHeap, any_heap, eq_heap, i31_heap, struct_heap, array_heap, none_heap, func_heap, nofunc_heap, extern_heap, noextern_heap, exn_heap, noexn_heap, cont_heap, nocont_heap, Heap, abstract_heap, concrete, exact, Ref, Val, i32, i64, f32, f64, v128, reference, Storage, i8, i16, unpacked, Field, Comp, func, array, struct, cont}
use Rattle.wasm_readers_errors.specs.WasmSpec.ValueTypes.{is_without_gc_types}
use Rattle.wasm_readers_errors.specs.WasmSpec.CrateLimits.{most_params, most_results, most_fields, is_within}
use Rattle.wasm_readers_errors.specs.WasmReadersFeatures.ProposalFlags.{has_flag}
use Rattle.wasm_spec_rules.specs.FeatureFlags.{features_of}
use Rattle.wasm_readers_errors.specs.Refusals.{plain, unless, lack_if}
use Rattle.wasm_readers_errors.specs.declared.error.Fault.{Fault}
use Rattle.wasm_readers_errors.specs.declared.error.Fault.TheVariants as fault
use Rattle.wasm_readers_errors.specs.declared.error.Rule.TheVariants.{Floats, Simd, MultiValue}
use Rattle.wasm_readers_errors.specs.WasmReadersFeatures.declared.type_rules.GroupRule.{GroupRule}
use Rattle.wasm_readers_errors.specs.WasmReadersFeatures.declared.type_rules.GroupRule.TheVariants.{Arrays, ArrayGcTypes, Structs, StructGcTypes, Continuations, ContinuationGcTypes, FunctionParams, FunctionReturns, StructFields}
use Rattle.wasm_readers_errors.specs.WasmReadersFeatures.declared.type_rules.ValueTypeRule.{ValueTypeRule}
use Rattle.wasm_readers_errors.specs.WasmReadersFeatures.declared.type_rules.ValueTypeRule.TheVariants.{ReferenceTypes, IndexReferences, ExactReferences, SharedReferences, GcTypes, NonNullable, GcHeapTypes, ExceptionReferences, ContinuationReferences}
use Rattle.wasm_readers_errors.specs.declared.error.Refusal.{Refusal}
use Rattle.wasm_readers_errors.specs.WasmReadersFeatures.declared.features.WasmFeatures.{WasmFeatures}
use Rattle.wasm_readers_errors.specs.WasmReadersFeatures.declared.features.TheConstants.WasmFeatures.{REFERENCE_TYPES, FUNCTION_REFERENCES, GC, GC_TYPES, CUSTOM_DESCRIPTORS, SHARED_EVERYTHING_THREADS, EXCEPTIONS, STACK_SWITCHING, FLOATS, SIMD, MULTI_VALUE}

-- the first of several refusals
abbrev pub first_told : {X : Type 0} → (X → Option Refusal) → List X → Option Refusal
first_told told [] = None
first_told told (x ∷ xs) = option_or (told x) (first_told told xs)

module _ (features : WasmFeatures) (offset : ℕ) where
  -- for want of a proposal that reference types need
  abbrev pub lack_for_ref : Bool → WasmFeatures → ValueTypeRule → Option Refusal
  lack_for_ref needed proposal rule = lack_if needed features proposal (fault.ValueType rule) offset

  -- abstract heap types, where they may be null and where they may not
  abbrev pub told_of_abstract : Bool → AbstractHeap → Option Refusal
  told_of_abstract nullable func_heap = lack_for_ref (not nullable) FUNCTION_REFERENCES NonNullable
  told_of_abstract nullable extern_heap = lack_for_ref (not nullable) FUNCTION_REFERENCES NonNullable
  told_of_abstract nullable exn_heap = lack_for_ref true EXCEPTIONS ExceptionReferences
  told_of_abstract nullable noexn_heap = lack_for_ref true EXCEPTIONS ExceptionReferences
  told_of_abstract nullable cont_heap = lack_for_ref true STACK_SWITCHING ContinuationReferences
  told_of_abstract nullable nocont_heap = lack_for_ref true STACK_SWITCHING ContinuationReferences
  told_of_abstract nullable any_heap = lack_for_ref true GC GcHeapTypes
  told_of_abstract nullable none_heap = lack_for_ref true GC GcHeapTypes
  told_of_abstract nullable eq_heap = lack_for_ref true GC GcHeapTypes
  told_of_abstract nullable struct_heap = lack_for_ref true GC GcHeapTypes
  told_of_abstract nullable array_heap = lack_for_ref true GC GcHeapTypes
  told_of_abstract nullable i31_heap = lack_for_ref true GC GcHeapTypes
  told_of_abstract nullable noextern_heap = lack_for_ref true GC GcHeapTypes
  told_of_abstract nullable nofunc_heap = lack_for_ref true GC GcHeapTypes

  -- heap types; of the two proposals that allow an index, FUNCTION_REFERENCES is named
  abbrev pub told_of_heap : {R : Type 0} → Bool → Heap R → Option Refusal
  told_of_heap nullable (concrete r) = lack_for_ref (not (has_flag GC.0 features)) FUNCTION_REFERENCES IndexReferences
  told_of_heap nullable (exact r) = lack_for_ref true CUSTOM_DESCRIPTORS ExactReferences
  told_of_heap nullable (abstract_heap shared a) =
      option_or (lack_for_ref shared SHARED_EVERYTHING_THREADS SharedReferences)
      (option_or (lack_for_ref (not (is_without_gc_types a)) GC_TYPES GcTypes) (told_of_abstract nullable a))

  abbrev pub told_of_ref : {R : Type 0} → Ref R → Option Refusal
  told_of_ref r = option_or (lack_for_ref true REFERENCE_TYPES ReferenceTypes) (told_of_heap r.nullable r.heap)

  abbrev pub told_of_val : {R : Type 0} → Val R → Option Refusal
  told_of_val i32 = None
  told_of_val i64 = None
  told_of_val f32 = lack_if true features FLOATS (fault.Rule Floats) offset
  told_of_val f64 = lack_if true features FLOATS (fault.Rule Floats) offset
  told_of_val v128 = lack_if true features SIMD (fault.Rule Simd) offset
  told_of_val (reference r) = told_of_ref r

  abbrev pub told_of_storage : {R : Type 0} → Storage R → Option Refusal
  told_of_storage i8 = None
  told_of_storage i16 = None
  told_of_storage (unpacked v) = told_of_val v

  abbrev pub told_of_field : {R : Type 0} → Field R → Option Refusal
  told_of_field x = told_of_storage x.storage

  -- for want of the two proposals that a form of composite type needs
  abbrev pub lack_for_form : WasmFeatures → Fault → Fault → Option Refusal → Option Refusal
  lack_for_form proposal form gc_types behind = option_or (lack_if true features proposal form offset) (option_or (lack_if true features GC_TYPES gc_types offset) behind)

  -- composite types: the form before its fields, and the number of results behind their types
  abbrev pub told_of_form : {R : Type 0} → Comp R → Option Refusal
  told_of_form (func ps rs) =
      option_or (first_told told_of_val ps)
      (option_or (first_told told_of_val rs) (lack_if (nat_lt 1 (length rs)) features MULTI_VALUE (fault.Rule MultiValue) offset))
  told_of_form (array x) = lack_for_form GC (fault.Group Arrays) (fault.Group ArrayGcTypes) (told_of_field x)
  told_of_form (struct xs) = lack_for_form GC (fault.Group Structs) (fault.Group StructGcTypes) (first_told told_of_field xs)
  told_of_form (cont r) = lack_for_form STACK_SWITCHING (fault.Group Continuations) (fault.Group ContinuationGcTypes) None

  -- more than this limit, where the limits are asked for; no proposal lifts that
  abbrev pub told_of_count : ℕ → ℕ → GroupRule → Option Refusal
  told_of_count most count rule = unless (is_within (features_of features) most count) (plain (fault.Group rule) offset)

  abbrev pub told_of_limits : {R : Type 0} → Comp R → Option Refusal
  told_of_limits (func ps rs) = option_or (told_of_count most_params (length ps) FunctionParams) (told_of_count most_results (length rs) FunctionReturns)
  told_of_limits (struct xs) = told_of_count most_fields (length xs) StructFields
  told_of_limits _ = None

  -- the proposals before the limits
  abbrev pub told_of_comp : {R : Type 0} → Comp R → Option Refusal
  told_of_comp c = option_or (told_of_form c) (told_of_limits c)
