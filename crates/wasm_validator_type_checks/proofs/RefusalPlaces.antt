-- What is told of a type stands where its group does.
use Rattle.std.proofs.Common.{◌≡◌, refl, sym, subst, ℕ, Bool, true, false, not, ◌||◌, List, [], ◌∷◌, Option, Some, None, IfSome, is_some, Ok, Err, IfErr, length}
use Rattle.std.specs.Option.{option_or}
use Rattle.wasm_spec.specs.Syntax.{Sub, AbstractHeap, any_heap, eq_heap, i31_heap, struct_heap, array_heap, none_heap, func_heap, nofunc_heap, extern_heap, noextern_heap, exn_heap, noexn_heap, cont_heap, nocont_heap, Heap, abstract_heap, concrete, exact, Val, i32, i64, f32, f64, v128, reference, Storage, i8, i16, unpacked, Field, Comp, func, array, struct, cont}
use Rattle.std.specs.Prelude.{nat_lt}
use Rattle.std.specs.declared.result.Result.{Result}
use Rattle.wasm_spec.specs.ValueTypes.{is_without_gc_types}
use Rattle.wasm_spec.specs.CrateLimits.{most_params, most_results, most_fields, is_within}
use Rattle.wasm_validator_resources.specs.WasmSpecRules.FeatureFlags.{features_of}
use Rattle.wasm_spec.specs.SupertypeOrder.{supertype_of}
use Rattle.wasm_spec.specs.GroupRules.{is_struct}
use Rattle.wasm_validator_resources.specs.WasmReadersErrors.declared.error.Fault.TheVariants as fault
use Rattle.wasm_validator_resources.specs.WasmReadersErrors.declared.error.Rule.TheVariants.{Floats, Simd, MultiValue}
use Rattle.wasm_validator_resources.specs.WasmReadersErrors.WasmReadersFeatures.declared.type_rules.GroupRule.TheVariants.{Arrays, ArrayGcTypes, Structs, StructGcTypes, Continuations, ContinuationGcTypes, FunctionParams, FunctionReturns, StructFields, SharedComposites, Subtypes}
use Rattle.wasm_validator_resources.specs.WasmReadersErrors.WasmReadersFeatures.declared.type_rules.GroupRule.{GroupRule}
use Rattle.wasm_validator_resources.specs.WasmReadersErrors.WasmReadersFeatures.declared.type_rules.DescriptorRule.TheVariants.{Descriptors}
use Rattle.wasm_validator_resources.specs.WasmReadersErrors.WasmReadersFeatures.declared.type_rules.ValueTypeRule.{ValueTypeRule}
use Rattle.wasm_validator_resources.specs.WasmReadersErrors.WasmReadersFeatures.declared.type_rules.ValueTypeRule.TheVariants.{ReferenceTypes, IndexReferences, ExactReferences, SharedReferences, GcTypes, NonNullable, GcHeapTypes, ExceptionReferences, ContinuationReferences}
use Rattle.wasm_validator_resources.specs.WasmReadersErrors.WasmReadersFeatures.declared.features.TheConstants.WasmFeatures.{REFERENCE_TYPES, FUNCTION_REFERENCES, GC, GC_TYPES, CUSTOM_DESCRIPTORS, SHARED_EVERYTHING_THREADS, EXCEPTIONS, STACK_SWITCHING, FLOATS, SIMD, MULTI_VALUE}
use Rattle.wasm_validator_resources.specs.WasmReadersErrors.WasmReadersFeatures.ProposalFlags.{has_flag}
use Rattle.wasm_validator_resources.specs.WasmReadersErrors.Refusals.{plain, unless, lacking, lack_if}
use Rattle.wasm_validator_resources.specs.WasmReadersErrors.declared.error.Fault.{Fault}
use Rattle.wasm_validator_resources.specs.WasmReadersErrors.declared.error.Refusal.{Refusal}
use Rattle.wasm_validator_resources.specs.WasmReadersErrors.WasmReadersFeatures.declared.features.WasmFeatures.{WasmFeatures}
use Rattle.wasm_readers_types.specs.declared.types.SubType.{SubType}
use Rattle.wasm_validator_type_list.specs.DeclarationsById.{declares}
use Rattle.wasm_validator_resources.specs.ProposalRefusals.{first_told, told_of_abstract, told_of_heap, told_of_val, told_of_storage, told_of_form, told_of_count, told_of_limits, told_of_comp}
use Rattle.wasm_validator_type_checks.specs.TypeRefusals.{clause_of_non_struct, Unless, holds, broken, FirstOf, first, second, AtSome, absent, present, told_of_extending, told_of_clauses, told_before_continuation, ToldOfContinuation, ToldOfExtended, ToldOfExtendedClauses, ToldOfPair, ToldOfType, ToldOfGroup}

module _ (offset : ℕ) where
  -- a refusal, if there is one, stands here
  abbrev Here : Option Refusal → Type 0
  Here t = IfSome t (λ r. r.offset ≡ offset)

  here_unless : (b : Bool) (r : Refusal) → r.offset ≡ offset → Here (unless b r)
  here_unless true r e = tt
  here_unless false r e = e

  here_lack : (needed : Bool) (features proposal : WasmFeatures) (rule : Fault) → Here (lack_if needed features proposal rule offset)
  here_lack needed features proposal rule = here_unless (not needed || has_flag proposal.0 features) (lacking proposal rule offset) refl

  here_or : (a b : Option Refusal) → Here a → Here b → Here (option_or a b)
  here_or (Some r) b h k = h
  here_or None b h k = k

  here_first : {X : Type 0} (f : X → Option Refusal) → ((x : X) → Here (f x)) → (xs : List X) → Here (first_told f xs)
  here_first f h [] = tt
  here_first f h (x ∷ xs) = here_or (f x) (first_told f xs) (h x) (here_first f h xs)

  module _ (features : WasmFeatures) where
    abbrev lacks : Bool → WasmFeatures → ValueTypeRule → Type 0
    lacks needed proposal rule = Here (lack_if needed features proposal (fault.ValueType rule) offset)

    here_ref : (needed : Bool) (proposal : WasmFeatures) (rule : ValueTypeRule) → lacks needed proposal rule
    here_ref needed proposal rule = here_lack needed features proposal (fault.ValueType rule)

    here_abstract : (nullable : Bool) (a : AbstractHeap) → Here (told_of_abstract features offset nullable a)
    here_abstract nullable func_heap = here_ref (not nullable) FUNCTION_REFERENCES NonNullable
    here_abstract nullable extern_heap = here_ref (not nullable) FUNCTION_REFERENCES NonNullable
    here_abstract nullable exn_heap = here_ref true EXCEPTIONS ExceptionReferences
    here_abstract nullable noexn_heap = here_ref true EXCEPTIONS ExceptionReferences
    here_abstract nullable cont_heap = here_ref true STACK_SWITCHING ContinuationReferences
    here_abstract nullable nocont_heap = here_ref true STACK_SWITCHING ContinuationReferences
    here_abstract nullable any_heap = here_ref true GC GcHeapTypes
    here_abstract nullable none_heap = here_ref true GC GcHeapTypes
    here_abstract nullable eq_heap = here_ref true GC GcHeapTypes
    here_abstract nullable struct_heap = here_ref true GC GcHeapTypes
    here_abstract nullable array_heap = here_ref true GC GcHeapTypes
    here_abstract nullable i31_heap = here_ref true GC GcHeapTypes
    here_abstract nullable noextern_heap = here_ref true GC GcHeapTypes
    here_abstract nullable nofunc_heap = here_ref true GC GcHeapTypes

    here_form : (proposal : WasmFeatures) (form gc_types : Fault) (behind : Option Refusal) → Here behind
        → Here (option_or (lack_if true features proposal form offset) (option_or (lack_if true features GC_TYPES gc_types offset) behind))
    here_form proposal form gc_types behind h =
        here_or (lack_if true features proposal form offset) (option_or (lack_if true features GC_TYPES gc_types offset) behind) (here_lack true features proposal form)
        (here_or (lack_if true features GC_TYPES gc_types offset) behind (here_lack true features GC_TYPES gc_types) h)

    here_count : (most count : ℕ) (rule : GroupRule) → Here (told_of_count features offset most count rule)
    here_count most count rule = here_unless (is_within (features_of features) most count) (plain (fault.Group rule) offset) refl

    module _ {R : Type 0} where
      here_heap : (nullable : Bool) (h : Heap R) → Here (told_of_heap features offset nullable h)
      here_heap nullable (concrete r) = here_ref (not (has_flag GC.0 features)) FUNCTION_REFERENCES IndexReferences
      here_heap nullable (exact r) = here_ref true CUSTOM_DESCRIPTORS ExactReferences
      here_heap nullable (abstract_heap shared a) =
          here_or (lack_if shared features SHARED_EVERYTHING_THREADS (fault.ValueType SharedReferences) offset)
          (option_or (lack_if (not (is_without_gc_types a)) features GC_TYPES (fault.ValueType GcTypes) offset) (told_of_abstract features offset nullable a))
          (here_ref shared SHARED_EVERYTHING_THREADS SharedReferences)
          (here_or (lack_if (not (is_without_gc_types a)) features GC_TYPES (fault.ValueType GcTypes) offset) (told_of_abstract features offset nullable a)
          (here_ref (not (is_without_gc_types a)) GC_TYPES GcTypes) (here_abstract nullable a))

      here_val : (v : Val R) → Here (told_of_val features offset v)
      here_val i32 = tt
      here_val i64 = tt
      here_val f32 = here_lack true features FLOATS (fault.Rule Floats)
      here_val f64 = here_lack true features FLOATS (fault.Rule Floats)
      here_val v128 = here_lack true features SIMD (fault.Rule Simd)
      here_val (reference r) =
          here_or (lack_if true features REFERENCE_TYPES (fault.ValueType ReferenceTypes) offset) (told_of_heap features offset r.nullable r.heap) (here_ref true REFERENCE_TYPES ReferenceTypes) (here_heap r.nullable r.heap)

      here_storage : (s : Storage R) → Here (told_of_storage features offset s)
      here_storage i8 = tt
      here_storage i16 = tt
      here_storage (unpacked v) = here_val v

      here_composite_form : (c : Comp R) → Here (told_of_form features offset c)
      here_composite_form (func ps rs) =
          let many = lack_if (nat_lt 1 (length rs)) features MULTI_VALUE (fault.Rule MultiValue) offset in
          let results = first_told (told_of_val features offset) rs in
          here_or (first_told (told_of_val features offset) ps) (option_or results many) (here_first (told_of_val features offset) here_val ps)
          (here_or results many (here_first (told_of_val features offset) here_val rs) (here_lack (nat_lt 1 (length rs)) features MULTI_VALUE (fault.Rule MultiValue)))
      here_composite_form (array x) = here_form GC (fault.Group Arrays) (fault.Group ArrayGcTypes) (told_of_storage features offset x.storage) (here_storage x.storage)
      here_composite_form (struct xs) =
          here_form GC (fault.Group Structs) (fault.Group StructGcTypes) (first_told (λ (x : Field R). told_of_storage features offset x.storage) xs)
          (here_first (λ (x : Field R). told_of_storage features offset x.storage) (λ x. here_storage x.storage) xs)
      here_composite_form (cont r) = here_form STACK_SWITCHING (fault.Group Continuations) (fault.Group ContinuationGcTypes) None tt

      here_limits : (c : Comp R) → Here (told_of_limits features offset c)
      here_limits (func ps rs) =
          here_or (told_of_count features offset most_params (length ps) FunctionParams) (told_of_count features offset most_results (length rs) FunctionReturns)
          (here_count most_params (length ps) FunctionParams) (here_count most_results (length rs) FunctionReturns)
      here_limits (array x) = tt
      here_limits (struct xs) = here_count most_fields (length xs) StructFields
      here_limits (cont r) = tt

      here_comp : (c : Comp R) → Here (told_of_comp features offset c)
      here_comp c = here_or (told_of_form features offset c) (told_of_limits features offset c) (here_composite_form c) (here_limits c)

  -- rules one after another
  abbrev AllHere : (Option Refusal → Type 0) → Type 0
  AllHere A = (t : Option Refusal) → A t → Here t

  one_rule : (P : Type 0) (r : Refusal) → r.offset ≡ offset → AllHere (Unless P r)
  one_rule P r e t (holds p) = tt
  one_rule P r e t (broken p) = e

  two_rules : (A B : Option Refusal → Type 0) → AllHere A → AllHere B → AllHere (FirstOf A B)
  two_rules A B f g t (first r a) = f (Some r) a
  two_rules A B f g t (second u a b) = g u b

  at_some : {X : Type 0} (A : X → Option Refusal → Type 0) → ((x : X) → AllHere (A x)) → (o : Option X) → AllHere (AtSome A o)
  at_some A f o t absent = tt
  at_some A f o t (present x u a) = f x u a

  told_is : (told : Option Refusal) → Here told → AllHere (λ t. t ≡ told)
  told_is told h t e = subst Here (sym e) h

  -- the rules of a type
  module _ (D : ℕ → Option (Sub ℕ)) where
    here_continuation : (c : Comp ℕ) → AllHere (ToldOfContinuation offset D c)
    here_continuation (cont r) = one_rule _ _ refl
    here_continuation (func ps rs) = told_is None tt
    here_continuation (array x) = told_is None tt
    here_continuation (struct xs) = told_is None tt

    here_extended : (a b : ℕ) → AllHere (ToldOfExtended offset D a b)
    here_extended a b = two_rules _ _ (one_rule _ _ refl) (one_rule _ _ refl)

    here_extended_clauses : (a b : ℕ) → AllHere (ToldOfExtendedClauses offset D a b)
    here_extended_clauses a b = two_rules _ _ (one_rule _ _ refl) (two_rules _ _ (one_rule _ _ refl) (two_rules _ _ (one_rule _ _ refl) (one_rule _ _ refl)))

    here_pair : (a : ℕ) → AllHere (ToldOfPair offset D a)
    here_pair a = two_rules _ _ (one_rule _ _ refl) (two_rules _ _ (one_rule _ _ refl) (one_rule _ _ refl))

    module _ (features : WasmFeatures) where
      here_before : (s : Sub ℕ) → Here (told_before_continuation features offset D s)
      here_before s =
          here_or _ _ (here_lack s.shared features SHARED_EVERYTHING_THREADS (fault.Group SharedComposites))
          (here_or _ _ (here_comp features s.comp) (here_unless _ _ refl))

      here_clauses : (s : Sub ℕ) → Here (told_of_clauses features offset s)
      here_clauses s =
          let has_clause = is_some s.descriptor || is_some s.describes in
          let allowed = not has_clause || is_struct s.comp in
          let r = plain (fault.Descriptor (clause_of_non_struct features offset s)) offset in
          here_or (lack_if has_clause features CUSTOM_DESCRIPTORS (fault.Descriptor Descriptors) offset) (unless allowed r)
          (here_lack has_clause features CUSTOM_DESCRIPTORS (fault.Descriptor Descriptors)) (here_unless allowed r refl)

      here_extending : (s : Sub ℕ) → Here (told_of_extending features offset s)
      here_extending s = here_lack _ features GC (fault.Group Subtypes)

      here_composite : (s : Sub ℕ) → AllHere (FirstOf (λ t. t ≡ told_before_continuation features offset D s) (ToldOfContinuation offset D s.comp))
      here_composite s = two_rules _ _ (told_is _ (here_before s)) (here_continuation s.comp)

      here_type : (a : ℕ) → AllHere (ToldOfType features offset D a)
      here_type a =
          two_rules _ _
          (two_rules _ _ (at_some _ (λ s. told_is _ (here_extending s)) (D a))
          (two_rules _ _ (at_some _ here_composite (D a)) (two_rules _ _ (at_some _ (here_extended a) (supertype_of D a)) (one_rule _ _ refl))))
          (two_rules _ _ (at_some _ (λ s. told_is _ (here_clauses s)) (D a)) (two_rules _ _ (at_some _ (here_extended_clauses a) (supertype_of D a)) (here_pair a)))

told_at : {A : Type 0} (features : WasmFeatures) (offset : ℕ) (gs : List (List (SubType A))) (k : ℕ) (r : Refusal) → ToldOfGroup features offset gs k r → r.offset ≡ offset
told_at features offset gs k r t = here_type offset (declares gs) features t.id (Some r) t.told

pub group_told_at : {A X : Type 0} (features : WasmFeatures) (offset : ℕ) (gs : List (List (SubType A))) (k : ℕ) (x : Result X Refusal) → IfErr x (ToldOfGroup features offset gs k) → IfErr x (λ r. r.offset ≡ offset)
group_told_at features offset gs k (Ok u) t = tt
group_told_at features offset gs k (Err r) t = told_at features offset gs k r t
