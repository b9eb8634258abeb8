-- The refusal of a type for want of a proposal names the one by which an operator is refused that writes the type.
use Rattle.std.proofs.Common.{◌≡◌, ℕ, Bool, true, false, ◌||◌, not, refl, ap, subst, ◌∙◌}
use Rattle.std.specs.Option.{option_or}
use Rattle.std.specs.Prelude.{Option, Some, None, ⊤}
use Rattle.wasm_validator_resources.specs.WasmSpec.Syntax.{AbstractHeap, any_heap, eq_heap, i31_heap, struct_heap, array_heap, none_heap, func_heap, nofunc_heap, extern_heap, noextern_heap, exn_heap, noexn_heap, cont_heap, nocont_heap, Heap, abstract_heap, concrete, exact, Val, i32, i64, f32, f64, v128, reference}
use Rattle.wasm_validator_resources.specs.WasmSpec.ValueTypes.{is_without_gc_types}
use Rattle.wasm_validator_resources.specs.WasmReadersErrors.Refusals.{unless, lacking}
use Rattle.wasm_validator_resources.specs.WasmReadersErrors.declared.error.Fault.TheVariants as fault
use Rattle.wasm_validator_resources.specs.WasmReadersErrors.declared.error.Refusal.{Refusal}
use Rattle.wasm_validator_resources.specs.WasmReadersErrors.declared.error.Rule.TheVariants.{Floats, Simd}
use Rattle.wasm_validator_resources.specs.WasmReadersErrors.LiftingProposals.{lifting, lifting_reference}
use Rattle.wasm_validator_resources.specs.WasmReadersErrors.WasmReadersFeatures.ProposalFlags.{has_flag}
use Rattle.wasm_validator_resources.specs.WasmReadersErrors.WasmReadersFeatures.declared.type_rules.ValueTypeRule.{ValueTypeRule}
use Rattle.wasm_validator_resources.specs.WasmReadersErrors.WasmReadersFeatures.declared.type_rules.ValueTypeRule.TheVariants.{ReferenceTypes, IndexReferences, ExactReferences, SharedReferences, GcTypes, NonNullable, GcHeapTypes, ExceptionReferences, ContinuationReferences}
use Rattle.wasm_validator_resources.specs.WasmReadersErrors.WasmReadersFeatures.declared.features.WasmFeatures.{WasmFeatures}
use Rattle.wasm_validator_resources.specs.WasmReadersErrors.WasmReadersFeatures.declared.features.TheConstants.WasmFeatures.{REFERENCE_TYPES, FUNCTION_REFERENCES, GC, GC_TYPES, CUSTOM_DESCRIPTORS, SHARED_EVERYTHING_THREADS, EXCEPTIONS, STACK_SWITCHING, FLOATS, SIMD}
use Rattle.wasm_validator_resources.specs.WasmReadersTypes.WasmReadersValues.declared.indices.UnpackedIndex.{UnpackedIndex}
use Rattle.wasm_validator_resources.specs.ProposalRefusals.{lack_for_ref, told_of_abstract, told_of_heap, told_of_val}
use Rattle.wasm_typing_checks.specs.declared.faults.OperatorFault.{OperatorFault}
use Rattle.wasm_typing_checks.specs.OperatorRefusals.{TellsType, IsLackOfType, rule_of_type, index_of_type}

-- the proposal that is named is that of the operator's rule
abbrev Names : Option Refusal → Type 0
Names None = ⊤
Names (Some r) = lifting (rule_of_type r.fault) ≡ r.missing

named_unless : (held : Bool) (r : Refusal) → Names (Some r) → Names (unless held r)
named_unless true r h = tt
named_unless false r h = h

named_first : (o p : Option Refusal) → Names o → Names p → Names (option_or o p)
named_first None p h k = k
named_first (Some r) p h k = h

module _ (features : WasmFeatures) (offset : ℕ) where
  named_lack : (needed : Bool) (proposal : WasmFeatures) (rule : ValueTypeRule) → Some (lifting_reference rule) ≡ Some proposal → Names (lack_for_ref features offset needed proposal rule)
  named_lack needed proposal rule e = named_unless (not needed || has_flag proposal.0 features) (lacking proposal (fault.ValueType rule) offset) e

  named_abstract : (nullable : Bool) (a : AbstractHeap) → Names (told_of_abstract features offset nullable a)
  named_abstract nullable func_heap = named_lack (not nullable) FUNCTION_REFERENCES NonNullable refl
  named_abstract nullable extern_heap = named_lack (not nullable) FUNCTION_REFERENCES NonNullable refl
  named_abstract nullable exn_heap = named_lack true EXCEPTIONS ExceptionReferences refl
  named_abstract nullable noexn_heap = named_lack true EXCEPTIONS ExceptionReferences refl
  named_abstract nullable cont_heap = named_lack true STACK_SWITCHING ContinuationReferences refl
  named_abstract nullable nocont_heap = named_lack true STACK_SWITCHING ContinuationReferences refl
  named_abstract nullable any_heap = named_lack true GC GcHeapTypes refl
  named_abstract nullable none_heap = named_lack true GC GcHeapTypes refl
  named_abstract nullable eq_heap = named_lack true GC GcHeapTypes refl
  named_abstract nullable struct_heap = named_lack true GC GcHeapTypes refl
  named_abstract nullable array_heap = named_lack true GC GcHeapTypes refl
  named_abstract nullable i31_heap = named_lack true GC GcHeapTypes refl
  named_abstract nullable noextern_heap = named_lack true GC GcHeapTypes refl
  named_abstract nullable nofunc_heap = named_lack true GC GcHeapTypes refl

  named_heap : (nullable : Bool) (h : Heap UnpackedIndex) → Names (told_of_heap features offset nullable h)
  named_heap nullable (concrete i) = named_lack (not (has_flag GC.0 features)) FUNCTION_REFERENCES IndexReferences refl
  named_heap nullable (exact i) = named_lack true CUSTOM_DESCRIPTORS ExactReferences refl
  named_heap nullable (abstract_heap shared a) =
      let gc_types = lack_for_ref features offset (not (is_without_gc_types a)) GC_TYPES GcTypes in
      let needs = told_of_abstract features offset nullable a in
      named_first (lack_for_ref features offset shared SHARED_EVERYTHING_THREADS SharedReferences) (option_or gc_types needs)
      (named_lack shared SHARED_EVERYTHING_THREADS SharedReferences refl)
      (named_first gc_types needs (named_lack (not (is_without_gc_types a)) GC_TYPES GcTypes refl) (named_abstract nullable a))

  named_val : (v : Val UnpackedIndex) → Names (told_of_val features offset v)
  named_val i32 = tt
  named_val i64 = tt
  named_val f32 = named_unless (false || has_flag FLOATS.0 features) (lacking FLOATS (fault.Rule Floats) offset) refl
  named_val f64 = named_unless (false || has_flag FLOATS.0 features) (lacking FLOATS (fault.Rule Floats) offset) refl
  named_val v128 = named_unless (false || has_flag SIMD.0 features) (lacking SIMD (fault.Rule Simd) offset) refl
  named_val (reference r) =
      named_first (lack_for_ref features offset true REFERENCE_TYPES ReferenceTypes) (told_of_heap features offset r.nullable r.heap)
      (named_lack true REFERENCE_TYPES ReferenceTypes refl) (named_heap r.nullable r.heap)

pub lacks_alike : (r : Refusal) (f : OperatorFault) → f.rule ≡ rule_of_type r.fault → f.number ≡ index_of_type r.fault → IsLackOfType r → TellsType r f
lacks_alike r f e n l =
    record { rule = e; index = n; missing = ap lifting e ∙ subst Names l.3 (named_val l.0 l.1 l.2) }

pub ruleset lacks = (lacks_alike)
