-- A module's group, written as the list of types has it, is the recursive type that it closes to.
use Rattle.std.proofs.Common.{◌≡◌, refl, sym, ap, subst, ◌∙◌, ℕ, zero, suc, ◌+◌, ◌-◌, ◌<◌, ◌≤◌, Bool, true, false, cond, leb, List, [], ◌∷◌, ◌++◌, map, length, slice_get, get_or, Option, Some, None, All, arith, length-append}
use Rattle.std.specs.Option.{option_map, option_and_then}
use Rattle.std.specs.List.{list_all, AllByRecursion}
use Rattle.std.proofs.lemmas.Bool.{le-leb, leb-true}
use Rattle.std.proofs.lemmas.List.{length-map}
use Rattle.std.proofs.lemmas.List.Elements.{All-head, All-tail}
use Rattle.std.proofs.lemmas.Option.{none-some, same_Some, slice_get-get_or}
use Rattle.wasm_spec.specs.Syntax.{Sub, Rec, map_sub, map_rec}
use Rattle.wasm_spec.specs.References.{refs_sub}
use Rattle.wasm_spec.specs.Features.{Features, canonical}
use Rattle.wasm_spec.specs.Trees.{RecTree, DefType, close}
use Rattle.wasm_spec.specs.Closing.{is_closable, positions, resolve, start_unless}
use Rattle.wasm_spec.specs.TypeLists.{listed_use, listed_from, resolve_listed, listed_tree}
use Rattle.wasm_spec.specs.TypeLaws.{AreIdsOf}
use Rattle.wasm_spec.proofs.Agreement.{agree_sub}
use Rattle.wasm_spec.proofs.Closing.{equal_trees_equal_groups}
use Rattle.wasm_spec.proofs.ListedGroups.{listed_group_is_written_group}
use Rattle.wasm_spec.proofs.ReferenceNumbers.{members-close}
use Rattle.wasm_spec.proofs.SyntaxMaps.{map_sub-map}
use Rattle.wasm_readers_types.specs.WasmReadersValues.declared.indices.UnpackedIndex.{UnpackedIndex}
use Rattle.wasm_readers_types.specs.WasmReadersValues.declared.indices.UnpackedIndex.TheVariants.{Module, RecGroup, Id}
use Rattle.wasm_readers_types.specs.declared.types.SubType.{SubType}
use Rattle.wasm_readers_types.specs.WasmReadersValues.declared.indices.TheConstants.{MAX_IDS}
use Rattle.wasm_readers_types.specs.SeenTypes.{sub_of}
use Rattle.wasm_validator_type_list.specs.WasmValidatorTypeGroups.Elements.{numbers_from}
use Rattle.wasm_validator_type_list.specs.WasmValidatorTypeGroups.Groups.{first_of}
use Rattle.wasm_validator_type_list.specs.ListViews.{Listing, types_in}
use Rattle.wasm_validator_type_list.specs.DefTypes.{listed_ref, listed_sub, listed_group, def_types, tree_behind}
use Rattle.wasm_validator_type_list.specs.GroupInterning.{AreOnce, Interns, InternsTypes}
use Rattle.wasm_validator_type_list.proofs.WasmValidatorTypeGroups.Places.{get-map}
use Rattle.wasm_validator_type_list.proofs.WasmValidatorTypeGroups.FlatGroups.{all_in-push}
use Rattle.wasm_validator_type_list.proofs.DefTypes.{length-def_types}
use Rattle.wasm_validator_canonical.specs.Groups.{nowhere, types_at, placed, held, with_an_id_each, with_written}
use Rattle.wasm_validator_canonical.specs.Indices.{use_of_index, canonical_index, canonical_group, is_written, is_written_sub, number_in}
use Rattle.wasm_validator_canonical.proofs.CanonicalTypes.{and_left, and_right}
use Rattle.wasm_validator_canonical.proofs.InternedTypes.{positions-map, interned_held, new_held}

either : {P : Type 0} (b : Bool) → (b ≡ true → P) → (b ≡ false → P) → P
either true f g = f refl
either false f g = g refl

-- a test that fails, by numbers
pub not_within : (a b : ℕ) → b < a → leb a b ≡ false
not_within a b l = either (leb a b) (λ e. let h : a ≤ b = leb-true a b e in absurd (omega (arith, l, h))) (λ e. e)

-- an index as the list has it
listed_either : (o : Option ℕ) (i : ℕ) → listed_ref (use_of_index o i) ≡ listed_use o i
listed_either (Some id) i = refl
listed_either None i = refl

listed_index : (ids : List ℕ) (u : UnpackedIndex) → is_written u ≡ true → listed_ref (canonical_index ids u) ≡ listed_from ids (number_in u)
listed_index ids (Module k) e = listed_either (slice_get ids k) (k - length ids)
listed_index ids (RecGroup i) e = absurd cc
listed_index ids (Id id) e = absurd cc

listed_indices : (ids : List ℕ) (us : List UnpackedIndex) → list_all is_written us ≡ true → AllByRecursion (λ u. listed_ref (canonical_index ids u) ≡ listed_from ids (number_in u)) us
listed_indices ids [] e = tt
listed_indices ids (u ∷ us) e = (listed_index ids u (and_left (is_written u) (list_all is_written us) e), listed_indices ids us (and_right (is_written u) (list_all is_written us) e))

listed_sub_as : (ids : List ℕ) (s : Sub UnpackedIndex) → is_written_sub s ≡ true → map_sub listed_ref (map_sub (canonical_index ids) s) ≡ map_sub (listed_from ids) (map_sub number_in s)
listed_sub_as ids s e =
    map_sub-map listed_ref (canonical_index ids) s
    ∙ agree_sub (λ u. listed_ref (canonical_index ids u)) (λ u. listed_from ids (number_in u)) s (listed_indices ids (refs_sub s) e)
    ∙ sym (map_sub-map (listed_from ids) number_in s)

listed_subs_as : (ids : List ℕ) (ss : List (Sub UnpackedIndex)) → list_all is_written_sub ss ≡ true
    → map (map_sub listed_ref) (canonical_group ids ss) ≡ map (map_sub (listed_from ids)) (map (map_sub number_in) ss)
listed_subs_as ids [] e = refl
listed_subs_as ids (s ∷ ss) e = λ i. listed_sub_as ids s (and_left (is_written_sub s) (list_all is_written_sub ss) e) i ∷ listed_subs_as ids ss (and_right (is_written_sub s) (list_all is_written_sub ss) e) i

module _ {A : Type 0} where
  listed_seen : (g : List (SubType A)) → listed_group g ≡ map (map_sub listed_ref) (map sub_of g)
  listed_seen [] = refl
  listed_seen (s ∷ ss) = ap (λ xs. listed_sub s ∷ xs) (listed_seen ss)

-- ids that are there are those of the types at them
pub known_ids : (n : ℕ) (ids : List ℕ) → All (λ id. id < n) ids → (k id : ℕ) → slice_get ids k ≡ Some id → id < n
known_ids n [] a k id e = absurd (none-some id e)
known_ids n (i ∷ ids) a zero id e = subst (λ m. m < n) (same_Some i id e) (All-head (λ m. m < n) i ids a)
known_ids n (i ∷ ids) a (suc k) id e = known_ids n ids (All-tail (λ m. m < n) i ids a) k id e

pub are_ids : (us : List DefType) (ids : List ℕ) → All (λ id. id < length us) ids → AreIdsOf us ids (types_at us ids)
are_ids us ids a = record {
  as_many = sym (length-map ids (λ (id : ℕ). get_or us id nowhere));
  each = λ k id e. slice_get-get_or us id nowhere (known_ids (length us) ids a k id e) ∙ sym (get-map (λ (id : ℕ). get_or us id nowhere) ids k id e);
}

-- the group's members with their uses
module _ (us : List DefType) (ids : List ℕ) (known : All (λ id. id < length us) ids) (G : List (Sub ℕ)) where
  same_members : map (map_sub (resolve_listed us)) (map (map_sub (listed_from ids)) G) ≡ map (map_sub (resolve (types_at us ids))) G
  same_members = (equal_trees_equal_groups None None _ _ (listed_group_is_written_group us (types_at us ids) ids G (are_ids us ids known))).1

  placed_tree : (c : Bool) → listed_tree c us (map (map_sub (listed_from ids)) G) ≡ placed c (length us) (close (start_unless c (length (types_at us ids))) (map (map_sub (resolve (types_at us ids))) G))
  placed_tree true = ap (close None) same_members
  placed_tree false = ap (close (Some (length us))) (same_members ∙ sym (members-close (Some (length (types_at us ids))) (map (map_sub (resolve (types_at us ids))) G)))

module _ {A : Type 0} (F : Features) (old new : Listing A) (ids : List ℕ) (written : Rec UnpackedIndex) (g : List (SubType A)) (is_new : Bool) (n : ℕ) where
  abbrev us : List DefType
  us = def_types (canonical F) old.groups

  abbrev numbered : Rec ℕ
  numbered = map_rec number_in written

  abbrev tree : RecTree
  tree = close (start_unless (canonical F) (length (types_at us ids))) (map (map_sub (resolve (types_at us ids))) numbered.types)

  same_tree : All (λ id. id < length us) ids → list_all is_written_sub written.types ≡ true → map sub_of g ≡ canonical_group ids written.types → tree_behind (canonical F) old.groups g ≡ placed (canonical F) (length us) tree
  same_tree known w e =
      ap (listed_tree (canonical F) us) (listed_seen g ∙ ap (map (map_sub listed_ref)) e ∙ listed_subs_as ids written.types w)
      ∙ placed_tree us ids known numbered.types (canonical F)

  same_positions : (t : RecTree) → map sub_of g ≡ canonical_group ids written.types → positions t 0 g ≡ positions t 0 written.types
  same_positions t e = sym (positions-map sub_of t 0 g) ∙ ap (positions t 0) e ∙ positions-map (map_sub (canonical_index ids)) t 0 written.types

  -- where the list with the group's types is this
  written_as : (q : List DefType × List ℕ) → canonical F ≡ old.is_canonical → All (λ id. id < length us) ids
      → list_all is_written_sub written.types ≡ true → is_closable F (length (types_at us ids)) numbered ≡ true
      → map sub_of g ≡ canonical_group ids written.types
      → held old.is_canonical (def_types old.is_canonical old.groups) ids (positions (tree_behind old.is_canonical old.groups g) 0 g) ≡ q
      → with_written F us ids written ≡ with_an_id_each q
  written_as q mode known w closable e h =
      let c = canonical F in
      let t = same_tree known w e in
      ap (λ b. cond b (option_and_then with_an_id_each (option_map (λ u. held c us ids (positions (placed c (length us) u) 0 written.types)) (cond (is_closable F (length (types_at us ids)) numbered) (Some tree) None))) None) w
      ∙ ap (λ b. option_and_then with_an_id_each (option_map (λ u. held c us ids (positions (placed c (length us) u) 0 written.types)) (cond b (Some tree) None))) closable
      ∙ ap (λ u. with_an_id_each (held c us ids (positions u 0 written.types))) (sym t)
      ∙ ap (λ ds. with_an_id_each (held c us ids ds)) (sym (same_positions (tree_behind c old.groups g) e))
      ∙ ap with_an_id_each (subst (λ b. held b (def_types b old.groups) ids (positions (tree_behind b old.groups g) 0 g) ≡ q) (sym mode) h)

  pub written_added : canonical F ≡ old.is_canonical → All (λ id. id < length us) ids
      → list_all is_written_sub written.types ≡ true
      → length (types_in new) ≤ MAX_IDS → is_closable F (length (types_at us ids)) numbered ≡ true
      → map sub_of g ≡ canonical_group ids written.types → Interns old new g is_new n → InternsTypes old new g is_new n → (old.is_canonical ≡ true → AreOnce new.groups)
      → with_written F us ids written ≡ Some (def_types (canonical F) new.groups, ids ++ numbers_from (first_of new.groups n) (length g))
  written_added mode known w room closable e i j one =
      let after = def_types old.is_canonical new.groups in
      let more = ids ++ numbers_from (first_of new.groups n) (length g) in
      let many = length-def_types old.is_canonical new.groups in
      written_as (after, more) mode known w closable e (interned_held old new g is_new n ids i j one)
      ∙ ap (λ b. cond b (Some (after, more)) None) (le-leb (length after) MAX_IDS (omega (arith, room, many)))
      ∙ ap (λ b. Some (def_types b new.groups, more)) (sym mode)

  -- a new group for which there are no ids
  pub written_none : canonical F ≡ old.is_canonical → All (λ id. id < length us) ids
      → list_all is_written_sub written.types ≡ true → is_closable F (length (types_at us ids)) numbered ≡ true
      → map sub_of g ≡ canonical_group ids written.types → (old.is_canonical ≡ true → AreOnce (old.groups ++ g ∷ [])) → MAX_IDS < length (types_in old) + length g
      → with_written F us ids written ≡ None
  written_none mode known w closable e one over =
      let all = old.groups ++ g ∷ [] in
      let after = def_types old.is_canonical all in
      let more = ids ++ numbers_from (first_of all (length old.groups)) (length g) in
      let many = length-def_types old.is_canonical all in
      let longer = ap length (all_in-push old.groups g) ∙ length-append (types_in old) g in
      written_as (after, more) mode known w closable e (new_held old.is_canonical old.groups g ids (λ h. (one h).types))
      ∙ ap (λ b. cond b (Some (after, more)) None) (not_within (length after) MAX_IDS (omega (arith, many, longer, over)))
