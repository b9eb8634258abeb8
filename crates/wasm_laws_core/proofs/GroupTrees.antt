-- The group of an id is the recursive type of the type that the id stands for.
use Rattle.std.proofs.Common.{◌≡◌, refl, sym, ap, subst, ◌∙◌, ℕ, ◌+◌, ◌-◌, ◌<◌, Bool, List, [], ◌∷◌, ◌++◌, map, length, slice_get, take, drop, Some, All, arith, append_assoc, take-append-drop}
use Rattle.std.specs.Option.{option_map}
use Rattle.std.specs.List.{AllByRecursion}
use Rattle.std.proofs.lemmas.List.{length-map}
use Rattle.std.proofs.lemmas.List.Elements.{recursion_from_All}
use Rattle.std.proofs.lemmas.Option.{same_Some, slice_get_within, get_or_from_slice_get}
use Rattle.wasm_spec.specs.Syntax.{map_sub}
use Rattle.wasm_spec.specs.References.{refs_sub}
use Rattle.wasm_spec.specs.Trees.{RecTree, DefType, members, start_of}
use Rattle.wasm_spec.specs.Closing.{start_unless}
use Rattle.wasm_spec.specs.TypeLists.{use_of_id, resolve_listed}
use Rattle.wasm_spec.proofs.Agreement.{agree_sub}
use Rattle.wasm_spec.proofs.SyntaxMaps.{map_sub-map}
use Rattle.wasm_spec.proofs.Closing.{members_of_closed, start_of_closed}
use Rattle.wasm_readers_types.specs.SeenTypes.{sub_of}
use Rattle.wasm_readers_types.specs.WasmReadersValues.declared.indices.UnpackedIndex.{UnpackedIndex}
use Rattle.wasm_readers_types.specs.WasmReadersValues.declared.indices.UnpackedIndex.TheVariants.{Module, RecGroup, Id}
use Rattle.wasm_readers_types.specs.declared.types.SubType.{SubType}
use Rattle.wasm_validator_type_groups.specs.Groups.{all_in, first_of, IsInGroup}
use Rattle.wasm_validator_type_groups.proofs.FlatGroups.{first_of-stays, first_of-all}
use Rattle.wasm_validator_type_groups.proofs.Places.{get-left, get-map, split-at}
use Rattle.wasm_validator_type_groups.proofs.MemberPlaces.{get-member}
use Rattle.wasm_validator_type_list.specs.GroupOrder.{IsKnown, AreListable}
use Rattle.wasm_validator_type_list.specs.DefTypes.{listed_ref, listed_sub, listed_group, def_types, tree_behind}
use Rattle.wasm_validator_type_list.proofs.DefTypes.{place_in, length-def_types, front}
use Rattle.wasm_validator_type_list.proofs.Lookups.{group_found, first_of-next}
use Rattle.wasm_validator_type_list.proofs.DistinctGroups.{members_of_new}
use Rattle.wasm_laws_core.specs.GroupTrees.{member_in, IsGroupOf, GroupsAreRecursiveTypes}

module _ {A : Type 0} (c : Bool) (gs : List (List (SubType A))) (k : ℕ) (g : List (SubType A)) (there : slice_get gs k ≡ Some g) where
  abbrev before : List DefType
  before = def_types c (take k gs)

  abbrev all : List DefType
  all = def_types c gs

  abbrev tree : RecTree
  tree = tree_behind c (take k gs) g

  -- an id before the group stands for what it stood for before the group came
  early : (id : ℕ) → id < first_of gs k → slice_get before id ≡ slice_get all id
  early id l =
      let f = front c (take k gs) (drop k gs) in
      let n : id < length before = omega (arith, l, length-def_types c (take k gs)) in
      sym (get-left before f.0 id n) ∙ ap (λ (ts : List DefType). slice_get ts id) (sym f.1) ∙ ap (λ hs. slice_get (def_types c hs) id) (take-append-drop k gs)

  -- an id of the group stands for its position in the recursive type
  own : (i : ℕ) → i < length g → slice_get all (first_of gs k + i) ≡ Some (place_in tree i)
  own i l =
      let a = take k gs in
      let b = drop (k + 1) gs in
      let here = a ++ g ∷ [] in
      let is : here ++ b ≡ gs = append_assoc a (g ∷ []) b ∙ split-at gs k g there in
      let f = front c here b in
      let n = first_of here (length a) + i in
      let at : slice_get (def_types c here) n ≡ Some (place_in tree i) = members_of_new c a g i l in
      let e : first_of gs k + i ≡ n = omega (arith, first_of-stays a (g ∷ []) (length a) (omega arith), first_of-all a) in
      ap (slice_get all) e
      ∙ ap (λ (ts : List DefType). slice_get ts n) (ap (def_types c) (sym is) ∙ f.1)
      ∙ get-left (def_types c here) f.0 n (slice_get_within (def_types c here) n (place_in tree i) at)
      ∙ at

  -- a reference of the group is the same use before the group and behind it
  same_use : (r : UnpackedIndex) → IsKnown (first_of gs k) (length g) r → resolve_listed before (listed_ref r) ≡ resolve_listed all (listed_ref r)
  same_use (Module i) h = absurd h
  same_use (RecGroup i) h = refl
  same_use (Id id) h = ap use_of_id (early id.index h)

  same_uses : (rs : List UnpackedIndex) → AllByRecursion (IsKnown (first_of gs k) (length g)) rs → AllByRecursion (λ r. resolve_listed before (listed_ref r) ≡ resolve_listed all (listed_ref r)) rs
  same_uses [] h = tt
  same_uses (r ∷ rs) h = (same_use r h.0, same_uses rs h.1)

  same_member : (ty : SubType A) → All (IsKnown (first_of gs k) (length g)) (refs_sub (sub_of ty)) → member_in before ty ≡ member_in all ty
  same_member ty h =
      let P = IsKnown (first_of gs k) (length g) in
      let s = sub_of ty in
      map_sub-map (resolve_listed before) listed_ref s
      ∙ agree_sub (λ r. resolve_listed before (listed_ref r)) (λ r. resolve_listed all (listed_ref r)) s (same_uses (refs_sub s) (recursion_from_All P (refs_sub s) h))
      ∙ sym (map_sub-map (resolve_listed all) listed_ref s)

  members-are : members tree ≡ map (map_sub (resolve_listed before)) (listed_group g)
  members-are = members_of_closed (start_unless c (length before)) (map (map_sub (resolve_listed before)) (listed_group g))

  start-is : start_of tree ≡ start_unless c (first_of gs k)
  start-is = start_of_closed (start_unless c (length before)) (map (map_sub (resolve_listed before)) (listed_group g)) ∙ ap (start_unless c) (length-def_types c (take k gs))

  length-members : length (members tree) ≡ length g
  length-members = ap length members-are ∙ length-map (listed_group g) (map_sub (resolve_listed before)) ∙ length-map g listed_sub

  data_at : AreListable gs → (i : ℕ) → i < length g → option_map (member_in all) (slice_get (all_in gs) (first_of gs k + i)) ≡ slice_get (members tree) i
  data_at h i l =
      let f = group_found g i l in
      let ty = f.0 in
      let P = λ (t : SubType A). All (IsKnown (first_of gs k) (length g)) (refs_sub (sub_of t)) in
      let known : P ty = subst P (get_or_from_slice_get g i ty ty f.1) ((h k g there).known i ty l) in
      ap (option_map (member_in all)) (get-member gs k g i there l ∙ f.1)
      ∙ ap Some (sym (same_member ty known))
      ∙ sym (get-map (map_sub (resolve_listed before)) (listed_group g) i (listed_sub ty) (get-map listed_sub g i ty f.1))
      ∙ ap (λ ms. slice_get ms i) (sym members-are)

  pub group_of : AreListable gs → (id : ℕ) (d : DefType) → IsInGroup gs k id → slice_get all id ≡ Some d → IsGroupOf c gs k id d
  group_of h id d in_group e =
      let i = id - first_of gs k in
      let next = first_of-next gs k g there in
      let place : first_of gs k + i ≡ id = omega (arith, in_group.from) in
      let l : i < length g = omega (arith, in_group.from, in_group.below, next) in
      let same : place_in tree i ≡ d = same_Some (place_in tree i) d (sym (own i l) ∙ ap (slice_get all) place ∙ e) in
      subst (IsGroupOf c gs k id) same (record {
        begins = place;
        as_many = omega (arith, next, length-members);
        start = start-is;
        ids = λ j m. own j (omega (arith, m, length-members));
        types = λ j m. data_at h j (omega (arith, m, length-members));
      })

pub groups_are_recursive_types : {A : Type 0} → GroupsAreRecursiveTypes A
groups_are_recursive_types c gs h k id d in_group e =
    let f = group_found gs k in_group.there in
    group_of c gs k f.0 f.1 h id d in_group e
