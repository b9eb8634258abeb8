-- Worked examples of the rules of types, as facts that a contract can name: what features allow, where type indices may point, and types that
-- break a rule.
use Rattle.std.specs.Prelude.{◌≡◌, ℕ, Bool, true, false, List, [], ◌∷◌, map, Option, Some, is_some}
use Rattle.wasm_spec.specs.Syntax.{AbstractHeap, any_heap, eq_heap, i31_heap, struct_heap, array_heap, none_heap, func_heap, nofunc_heap, extern_heap, noextern_heap, exn_heap, noexn_heap, cont_heap, nocont_heap, abstract_heap, concrete, exact, Val, i32, i64, f32, f64, v128, reference, i8, Comp, func, array, struct, cont, Sub}
use Rattle.wasm_spec.specs.Features.{Features}
use Rattle.wasm_spec.specs.ValueTypes.{allows_heap, allows_val}
use Rattle.wasm_spec.specs.Closing.{type_space}
use Rattle.wasm_spec.specs.Matching.{kind_of, bottom_of, top_of}
use Rattle.wasm_spec.specs.Defaults.{has_default, unpack}
use Rattle.wasm_spec.specs.GroupRules.{TypeRules, DescriptorRules}
use Rattle.wasm_spec.specs.TypeExamples.{features, ref_null, field, plain, any_ref}

-- the abstract heap types, in the order of `Syntax`
abbrev pub abstract_heaps : List AbstractHeap
abstract_heaps =
    any_heap ∷ eq_heap ∷ i31_heap ∷ struct_heap ∷ array_heap ∷ none_heap ∷ func_heap ∷ nofunc_heap ∷ extern_heap ∷ noextern_heap ∷ exn_heap ∷ noexn_heap
    ∷ cont_heap ∷ nocont_heap ∷ []

-- whether each may be written with these features, where it may be null or not
abbrev pub allowed : Features → Bool → List Bool
allowed F nullable = map (λ (a : AbstractHeap). allows_heap {R = ℕ} F nullable (abstract_heap false a)) abstract_heaps

-- with every feature but one, or none: gc allows `any`, what is below it and the bottoms; exceptions `exn` and `noexn`; stack switching `cont` and `nocont`
abbrev pub FeaturesAllowHeapTypes : Type 0
FeaturesAllowHeapTypes =
    (allowed (features true) false ≡ true ∷ true ∷ true ∷ true ∷ true ∷ true ∷ true ∷ true ∷ true ∷ true ∷ true ∷ true ∷ true ∷ true ∷ [])
    × (allowed (record (features true) { gc = false }) true ≡ false ∷ false ∷ false ∷ false ∷ false ∷ false ∷ true ∷ false ∷ true ∷ false ∷ true ∷ true ∷ true ∷ true ∷ [])
    × (allowed (record (features true) { exceptions = false }) true ≡ true ∷ true ∷ true ∷ true ∷ true ∷ true ∷ true ∷ true ∷ true ∷ true ∷ false ∷ false ∷ true ∷ true ∷ [])
    × (allowed (record (features true) { stack_switching = false }) true ≡ true ∷ true ∷ true ∷ true ∷ true ∷ true ∷ true ∷ true ∷ true ∷ true ∷ true ∷ true ∷ false ∷ false ∷ [])
    × (allowed (record (features true) { gc_types = false }) true ≡ false ∷ false ∷ false ∷ false ∷ false ∷ false ∷ true ∷ false ∷ false ∷ false ∷ true ∷ false ∷ false ∷ false ∷ [])
    × (allowed (record (features true) { function_references = false }) false ≡ true ∷ true ∷ true ∷ true ∷ true ∷ true ∷ false ∷ true ∷ false ∷ true ∷ true ∷ true ∷ true ∷ true ∷ [])

-- references to types of a module, exact ones and shared ones
abbrev pub FeaturesAllowReferences : Type 0
FeaturesAllowReferences =
    (allows_heap {R = ℕ} (record (features false) { gc = true }) true (concrete 0) ≡ true)
    × (allows_heap {R = ℕ} (record (features false) { function_references = true }) true (concrete 0) ≡ true)
    × (allows_heap {R = ℕ} (features false) true (concrete 0) ≡ false)
    × (allows_heap {R = ℕ} (record (features true) { custom_descriptors = false }) true (exact 0) ≡ false)
    × (allows_heap {R = ℕ} (record (features true) { shared_everything_threads = false }) true (abstract_heap true func_heap) ≡ false)

-- numbers, vectors and references
abbrev pub FeaturesAllowValues : Type 0
FeaturesAllowValues =
    (map (λ (v : Val ℕ). allows_val (features false) v) (i32 ∷ i64 ∷ f32 ∷ f64 ∷ v128 ∷ any_ref ∷ []) ≡ true ∷ true ∷ false ∷ false ∷ false ∷ false ∷ [])
    × (map (λ (v : Val ℕ). allows_val (features true) v) (i32 ∷ i64 ∷ f32 ∷ f64 ∷ v128 ∷ any_ref ∷ []) ≡ true ∷ true ∷ true ∷ true ∷ true ∷ true ∷ [])
    × (allows_val (record (features true) { reference_types = false }) any_ref ≡ false)

-- the kinds of composite types, what is below each, and what is above each heap type
abbrev pub composites : List (Comp ℕ)
composites = func [] [] ∷ array (field false i32) ∷ struct [] ∷ cont 0 ∷ []

abbrev pub KindsHaveBounds : Type 0
KindsHaveBounds =
    (map (λ (c : Comp ℕ). kind_of c) composites ≡ func_heap ∷ array_heap ∷ struct_heap ∷ cont_heap ∷ [])
    × (map (λ (c : Comp ℕ). bottom_of c) composites ≡ nofunc_heap ∷ none_heap ∷ none_heap ∷ nocont_heap ∷ [])
    × (map top_of abstract_heaps
    ≡ any_heap ∷ any_heap ∷ any_heap ∷ any_heap ∷ any_heap ∷ any_heap ∷ func_heap ∷ func_heap ∷ extern_heap ∷ extern_heap ∷ exn_heap ∷ exn_heap ∷ cont_heap ∷ cont_heap ∷ [])

-- numbers and references that may be null have a default, and a packed field unpacks to i32
abbrev pub ValuesHaveDefaults : Type 0
ValuesHaveDefaults =
    (has_default {R = ℕ} i32 ≡ true) × (has_default any_ref ≡ true) × (has_default {R = ℕ} (reference (record { nullable = false; heap = concrete 0 })) ≡ false) × (unpack {R = ℕ} i8 ≡ i32)

-- whether a group of these types may be written at the front of a module, with these features
abbrev pub may_be_written : Features → List (Sub ℕ) → Bool
may_be_written F ts = is_some (type_space F (record { is_explicit = true; types = ts } ∷ []))

abbrev pub function : List ℕ → Sub ℕ
function supers = plain false supers (func [] [])

-- A supertype and what is described come before a type, with one supertype at the most; other references stand in the group.
abbrev pub IndicesPointInBounds : Type 0
IndicesPointInBounds =
    (may_be_written (features true) (function [] ∷ function (0 ∷ []) ∷ []) ≡ true)
    × (may_be_written (features true) (function (0 ∷ []) ∷ []) ≡ false)
    × (may_be_written (features true) (function [] ∷ function [] ∷ function (0 ∷ 1 ∷ []) ∷ []) ≡ false)
    × (may_be_written (features true) (plain true [] (func (ref_null (concrete 0) ∷ []) []) ∷ []) ≡ true)
    × (may_be_written (features true) (plain true [] (func (ref_null (concrete 1) ∷ []) []) ∷ []) ≡ false)
    × (may_be_written (features true) (record (plain true [] (struct [])) { describes = Some 0 } ∷ []) ≡ false)
    × (may_be_written (features true) (record (plain true [] (struct [])) { descriptor = Some 1 } ∷ []) ≡ false)

-- a type that breaks a rule with these features, whatever is declared
abbrev pub IsRefused : Features → Sub ℕ → Type 0
IsRefused F s = (D : ℕ → Option (Sub ℕ)) (a : ℕ) → TypeRules F D a s → ⊥

abbrev pub NoOpenTypeWithoutGc : Type 0
NoOpenTypeWithoutGc = IsRefused (record (features true) { gc = false }) (function [])

abbrev pub NoSharedTypeWithoutSharing : Type 0
NoSharedTypeWithoutSharing = IsRefused (record (features true) { shared_everything_threads = false }) (record (function []) { shared = true })

abbrev pub NoSharedFieldOfUnshared : Type 0
NoSharedFieldOfUnshared = IsRefused (features true) (record (plain true [] (struct (field false any_ref ∷ []))) { shared = true })

abbrev pub NoManyResultsWithoutMultiValue : Type 0
NoManyResultsWithoutMultiValue = IsRefused (record (features true) { multi_value = false }) (plain true [] (func [] (i32 ∷ i32 ∷ [])))

abbrev pub NoAggregatesWithoutGc : Type 0
NoAggregatesWithoutGc =
    IsRefused (record (features true) { gc = false }) (plain true [] (struct [])) × IsRefused (record (features true) { gc_types = false }) (plain true [] (struct []))
    × IsRefused (record (features true) { gc = false }) (plain true [] (array (field false i32))) × IsRefused (record (features true) { gc_types = false }) (plain true [] (array (field false i32)))

abbrev pub NoContinuationsWithoutFeatures : Type 0
NoContinuationsWithoutFeatures =
    IsRefused (record (features true) { stack_switching = false }) (plain true [] (cont 0)) × IsRefused (record (features true) { gc_types = false }) (plain true [] (cont 0))

-- a type with this descriptor, or one that it describes, breaks a rule
abbrev pub HasNoDescriptor : Features → Sub ℕ → Type 0
HasNoDescriptor F s = (D : ℕ → Option (Sub ℕ)) (a : ℕ) → DescriptorRules F D a s → ⊥

abbrev pub NoDescriptorsOfFunctions : Type 0
NoDescriptorsOfFunctions = HasNoDescriptor (features true) (record (function []) { descriptor = Some 1 }) × HasNoDescriptor (features true) (record (function []) { describes = Some 1 })

abbrev pub NoDescriptorsWithoutFeature : Type 0
NoDescriptorsWithoutFeature = HasNoDescriptor (record (features true) { custom_descriptors = false }) (record (plain true [] (struct [])) { descriptor = Some 1 })
