-- The laws of types, for the functions that name them.
use Rattle.wasm_spec.proofs.Closing.{members_of_closed, start_of_closed, equal_trees_equal_groups, different_groups_different_types, each_written_group_is_its_own, appended_group, front_of_type_space, earlier_types_stay, single_rec_is_plain}
use Rattle.wasm_spec.proofs.WrittenTypes.{types_declare_what_is_written}
use Rattle.wasm_spec.proofs.ListedGroups.{appended_listed_group, earlier_ids_stay}
use Rattle.wasm_spec.proofs.ClosedGroups.{self_mentions_are_one_tree}
use Rattle.wasm_spec.proofs.Matching.{matching_is_reflexive, matching_is_transitive, matching_is_antisymmetric, accepted_types_match_ancestors}
use Rattle.wasm_spec.proofs.TypeExamples.{final_struct_still_matches, extended_struct_has_one_ancestor, described_pair_is_valid, mutual_structs_are_one_tree, mutual_structs_are_types, no_rec_without_gc, no_index_past_the_end, extends_open_struct, final_struct_is_not_extended, immutable_field_matches, mutable_field_does_not_match, parameters_match_backwards, parameters_do_not_match_forwards, sixty_three_ancestors, no_sixty_four_ancestors, packed_fields_are_allowed, no_vector_field_without_simd}
use Rattle.wasm_spec.proofs.MatchingTests.{tests_decide_matching}

pub ruleset tree_laws = (members_of_closed, start_of_closed, equal_trees_equal_groups, different_groups_different_types)

pub ruleset closing_laws = (appended_group, front_of_type_space, earlier_types_stay, single_rec_is_plain, each_written_group_is_its_own, self_mentions_are_one_tree, types_declare_what_is_written)

pub ruleset list_laws = (appended_listed_group, earlier_ids_stay)

pub ruleset matching_laws = (matching_is_reflexive, matching_is_transitive, matching_is_antisymmetric, accepted_types_match_ancestors, tests_decide_matching)

pub ruleset type_examples = (final_struct_still_matches, extended_struct_has_one_ancestor, described_pair_is_valid, mutual_structs_are_one_tree, mutual_structs_are_types, no_rec_without_gc, no_index_past_the_end, extends_open_struct, final_struct_is_not_extended, immutable_field_matches, mutable_field_does_not_match, parameters_match_backwards, parameters_do_not_match_forwards, sixty_three_ancestors, no_sixty_four_ancestors, packed_fields_are_allowed, no_vector_field_without_simd)
