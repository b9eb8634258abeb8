-- The worked examples of the rules of types.
use Rattle.std.proofs.Common.{◌≡◌, refl, true, false}
use Rattle.wasm_spec.specs.RuleExamples.{FeaturesAllowHeapTypes, FeaturesAllowReferences, FeaturesAllowValues, KindsHaveBounds, ValuesHaveDefaults, IndicesPointInBounds, NoOpenTypeWithoutGc, NoSharedTypeWithoutSharing, NoSharedFieldOfUnshared, NoManyResultsWithoutMultiValue, NoAggregatesWithoutGc, NoContinuationsWithoutFeatures, NoDescriptorsOfFunctions, NoDescriptorsWithoutFeature}

no : false ≡ true → ⊥
no e = cc

pub features_allow_heap_types : FeaturesAllowHeapTypes
features_allow_heap_types = (refl, refl, refl, refl, refl, refl)

pub features_allow_references : FeaturesAllowReferences
features_allow_references = (refl, refl, refl, refl, refl)

pub features_allow_values : FeaturesAllowValues
features_allow_values = (refl, refl, refl)

pub kinds_have_bounds : KindsHaveBounds
kinds_have_bounds = (refl, refl, refl)

pub values_have_defaults : ValuesHaveDefaults
values_have_defaults = (refl, refl, refl, refl)

pub indices_point_in_bounds : IndicesPointInBounds
indices_point_in_bounds = (refl, refl, refl, refl, refl, refl, refl)

pub no_open_type_without_gc : NoOpenTypeWithoutGc
no_open_type_without_gc D a v = no (v.subtyping_needs_gc refl)

pub no_shared_type_without_sharing : NoSharedTypeWithoutSharing
no_shared_type_without_sharing D a v = no (v.shared_needs_shared_everything_threads refl)

pub no_shared_field_of_unshared : NoSharedFieldOfUnshared
no_shared_field_of_unshared D a v = no (v.members_of_shared_are_shared refl)

pub no_many_results_without_multi_value : NoManyResultsWithoutMultiValue
no_many_results_without_multi_value D a v = no (v.many_results_need_multi_value refl)

pub no_aggregates_without_gc : NoAggregatesWithoutGc
no_aggregates_without_gc = (
  (λ D a v. no (v.struct_needs_gc refl)),
  (λ D a v. no (v.struct_needs_gc_types refl)),
  (λ D a v. no (v.array_needs_gc refl)),
  (λ D a v. no (v.array_needs_gc_types refl)),
)

pub no_continuations_without_features : NoContinuationsWithoutFeatures
no_continuations_without_features = ((λ D a v. no (v.continuation_needs_stack_switching refl)), (λ D a v. no (v.continuation_needs_gc_types refl)))

pub no_descriptors_of_functions : NoDescriptorsOfFunctions
no_descriptors_of_functions = ((λ D a v. no (v.descriptor_is_of_struct refl)), (λ D a v. no (v.describes_is_of_struct refl)))

pub no_descriptors_without_feature : NoDescriptorsWithoutFeature
no_descriptors_without_feature D a v = no (v.clauses_need_custom_descriptors refl)

pub ruleset examples = (features_allow_heap_types, features_allow_references, features_allow_values, kinds_have_bounds, values_have_defaults, indices_point_in_bounds, no_open_type_without_gc, no_shared_type_without_sharing, no_shared_field_of_unshared, no_many_results_without_multi_value, no_aggregates_without_gc, no_continuations_without_features, no_descriptors_of_functions, no_descriptors_without_feature)
