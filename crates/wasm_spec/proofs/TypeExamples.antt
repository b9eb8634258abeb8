-- The worked examples of types.
use Rattle.std.proofs.Common.{◌≡◌, refl, arith, ℕ, true, false, true≢false, sym, ap, subst, [], ◌∷◌, map, Option, Some, None}
use Rattle.wasm_spec.specs.Syntax.{any_heap, eq_heap, struct, Sub, map_sub}
use Rattle.std.specs.Prelude.{IfSome}
use Rattle.std.specs.Option.{option_and_then}
use Rattle.std.proofs.lemmas.List.Elements.{All-from_recursion}
use Rattle.wasm_spec.specs.Trees.{RecTree, DefType, close, members, declared}
use Rattle.wasm_spec.specs.Closing.{resolve}
use Rattle.wasm_spec.specs.SupertypeOrder.{supertype, ancestor_at}
use Rattle.wasm_spec.specs.GroupRules.{TypeRules, IsValidType}
use Rattle.wasm_spec.specs.Matching.{MatchesAbstract, itself, further, eq-any}
use Rattle.wasm_spec.specs.TypeExamples.{FinalStructStillMatches, ExtendedStructHasOneAncestor, features, described_pair, DescribedPairIsValid, MutualStructsAreOneTree, MutualStructsAreTypes, NoRecWithoutGc, NoIndexPastTheEnd, ExtendsOpenStruct, FinalStructIsNotExtended, ImmutableFieldMatches, MutableFieldDoesNotMatch, ParametersMatchBackwards, ParametersDoNotMatchForwards, SixtyThreeAncestors, NoSixtyFourAncestors, PackedFieldsAreAllowed, NoVectorFieldWithoutSimd}
use Rattle.wasm_spec.proofs.Matching.{goes_up}

pub mutual_structs_are_one_tree : MutualStructsAreOneTree
mutual_structs_are_one_tree = refl

pub mutual_structs_are_types : MutualStructsAreTypes
mutual_structs_are_types = refl

pub no_rec_without_gc : NoRecWithoutGc
no_rec_without_gc = refl

pub no_index_past_the_end : NoIndexPastTheEnd
no_index_past_the_end = refl

pub extends_open_struct : ExtendsOpenStruct
extends_open_struct = record {
  subtyping_needs_gc = λ _. refl;
  supertype_is_not_final = refl;
  matches_supertype = record { same_shared = refl; comp = tt };
  few_ancestors = refl;
  shared_needs_shared_everything_threads = λ _. refl;
  members_of_shared_are_shared = λ _. refl;
  many_results_need_multi_value = λ _. refl;
  array_needs_gc = λ _. refl;
  array_needs_gc_types = λ _. refl;
  struct_needs_gc = λ _. refl;
  struct_needs_gc_types = λ _. refl;
  continuation_needs_stack_switching = λ _. refl;
  continuation_needs_gc_types = λ _. refl;
  continuation_is_of_function = tt;
  members_are_allowed = refl;
  limits_are_kept = refl;
}

pub final_struct_is_not_extended : FinalStructIsNotExtended
final_struct_is_not_extended h = true≢false h

pub final_struct_still_matches : FinalStructStillMatches
final_struct_still_matches = record { same_shared = refl; comp = tt }

pub extended_struct_has_one_ancestor : ExtendedStructHasOneAncestor
extended_struct_has_one_ancestor = record { top = 0; leads = refl; is_top = refl }

pub sixty_three_ancestors : SixtyThreeAncestors
sixty_three_ancestors = record {
  subtyping_needs_gc = λ _. refl;
  supertype_is_not_final = refl;
  matches_supertype = record { same_shared = refl; comp = tt };
  few_ancestors = refl;
  shared_needs_shared_everything_threads = λ _. refl;
  members_of_shared_are_shared = λ _. refl;
  many_results_need_multi_value = λ _. refl;
  array_needs_gc = λ _. refl;
  array_needs_gc_types = λ _. refl;
  struct_needs_gc = λ _. refl;
  struct_needs_gc_types = λ _. refl;
  continuation_needs_stack_switching = λ _. refl;
  continuation_needs_gc_types = λ _. refl;
  continuation_is_of_function = tt;
  members_are_allowed = refl;
  limits_are_kept = refl;
}

no_first : (n : ℕ) → Some n ≡ None → ⊥
no_first n e = cc

pub no_sixty_four_ancestors : NoSixtyFourAncestors
no_sixty_four_ancestors F v = no_first 0 v.few_ancestors

pub packed_fields_are_allowed : PackedFieldsAreAllowed
packed_fields_are_allowed = (refl, refl)

pub no_vector_field_without_simd : NoVectorFieldWithoutSimd
no_vector_field_without_simd D a v = true≢false (sym v.members_are_allowed)

no_any_eq : MatchesAbstract any_heap eq_heap → ⊥
no_any_eq h = omega (arith, goes_up h)

pub immutable_field_matches : ImmutableFieldMatches
immutable_field_matches = record { same_mutable = refl; storage = (λ n. n, (refl, further eq-any itself)); back = λ m. absurd (true≢false (sym m)) }

pub mutable_field_does_not_match : MutableFieldDoesNotMatch
mutable_field_does_not_match h = no_any_eq (h.back refl).1.1

pub parameters_match_backwards : ParametersMatchBackwards
parameters_match_backwards = (((λ n. n, (refl, further eq-any itself)), tt), tt)

pub parameters_do_not_match_forwards : ParametersDoNotMatchForwards
parameters_do_not_match_forwards h = no_any_eq h.0.0.1.1

-- the rules of a struct with no fields and no supertype
struct_rules : (D : DefType → Option (Sub DefType)) (a : DefType) (o p : Option DefType) → let s : Sub DefType = record { is_final = true; supers = []; shared = false; comp = struct []; descriptor = o; describes = p } in D a ≡ Some s → TypeRules (features true) D a s
struct_rules D a o p e = record {
  subtyping_needs_gc = λ _. refl;
  supertype_is_not_final = tt;
  matches_supertype = tt;
  few_ancestors = ap (λ x. option_and_then (ancestor_at D 63) (option_and_then supertype x)) e;
  shared_needs_shared_everything_threads = λ _. refl;
  members_of_shared_are_shared = λ _. refl;
  many_results_need_multi_value = λ _. refl;
  array_needs_gc = λ _. refl;
  array_needs_gc_types = λ _. refl;
  struct_needs_gc = λ _. refl;
  struct_needs_gc_types = λ _. refl;
  continuation_needs_stack_switching = λ _. refl;
  continuation_needs_gc_types = λ _. refl;
  continuation_is_of_function = tt;
  members_are_allowed = refl;
  limits_are_kept = refl;
}

abbrev pair_tree : RecTree
pair_tree = close None (map (map_sub (resolve [])) described_pair.types)

abbrev pair_type : ℕ → DefType
pair_type i = record { tree = pair_tree; position = i }

abbrev with_descriptor : Sub DefType
with_descriptor = record { is_final = true; supers = []; shared = false; comp = struct []; descriptor = Some (pair_type 1); describes = None }

abbrev describing : Sub DefType
describing = record { is_final = true; supers = []; shared = false; comp = struct []; descriptor = None; describes = Some (pair_type 0) }

declared_first : declared (pair_type 0) ≡ Some with_descriptor
unfolding declared members close
declared_first = refl

declared_second : declared (pair_type 1) ≡ Some describing
unfolding declared members close
declared_second = refl

pub described_pair_is_valid : DescribedPairIsValid
described_pair_is_valid = record {
  types = pair_type 0 ∷ pair_type 1 ∷ [];
  gives = refl;
  valid = All-from_recursion (IsValidType (features true) declared) (pair_type 0 ∷ pair_type 1 ∷ []) (
    record {
      sub = with_descriptor;
      declares = declared_first;
      rules = struct_rules declared (pair_type 0) (Some (pair_type 1)) None declared_first;
      descriptor_rules = record {
        clauses_need_custom_descriptors = λ _. refl;
        descriptor_is_of_struct = λ _. refl;
        describes_is_of_struct = λ _. refl;
        with_descriptor_supertype_has_one = λ _. tt;
        without_descriptor_supertype_has_none = λ _. tt;
        supertype_of_descriptor = tt;
        supertype_of_described = tt;
        without_describes_supertype_has_none = λ _. tt;
        with_describes_supertype_has_one = λ _. tt;
        descriptor_describes_this = ap (option_and_then (λ (s : Sub DefType). s.describes)) declared_second;
        described_has_this_descriptor = tt;
        same_finality = subst (λ o. IfSome o (λ t. t.is_final ≡ true)) (sym declared_second) refl;
      };
    },
    (
      record {
        sub = describing;
        declares = declared_second;
        rules = struct_rules declared (pair_type 1) None (Some (pair_type 0)) declared_second;
        descriptor_rules = record {
          clauses_need_custom_descriptors = λ _. refl;
          descriptor_is_of_struct = λ _. refl;
          describes_is_of_struct = λ _. refl;
          with_descriptor_supertype_has_one = λ _. tt;
          without_descriptor_supertype_has_none = λ _. tt;
          supertype_of_descriptor = tt;
          supertype_of_described = tt;
          without_describes_supertype_has_none = λ _. tt;
          with_describes_supertype_has_one = λ _. tt;
          descriptor_describes_this = tt;
          described_has_this_descriptor = ap (option_and_then (λ (s : Sub DefType). s.descriptor)) declared_first;
          same_finality = tt;
        };
      },
      tt,
    ),
  );
}
