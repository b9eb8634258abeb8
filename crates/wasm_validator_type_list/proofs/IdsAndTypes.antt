-- What an id declares, and what the type declares that it stands for.
use Rattle.std.proofs.Common.{◌≡◌, refl, sym, ap, subst, ◌∙◌, ℕ, ◌+◌, ◌<◌, Bool, List, [], ◌∷◌, ◌++◌, map, length, get_or, slice_get, take, drop, Some, All, arith, append_assoc, length-append}
use Rattle.std.specs.Option.{option_map}
use Rattle.std.specs.List.{AllByRecursion}
use Rattle.std.proofs.lemmas.List.{length-map}
use Rattle.std.proofs.lemmas.List.Elements.{recursion_from_All}
use Rattle.std.proofs.lemmas.Option.{same_Some, slice_get_within, get_or_from_slice_get}
use Rattle.wasm_readers_errors.specs.WasmSpec.Syntax.{Sub, map_sub}
use Rattle.wasm_readers_errors.specs.WasmSpec.References.{refs_sub}
use Rattle.wasm_readers_errors.specs.WasmSpec.Trees.{RecTree, DefType, denote, declared}
use Rattle.wasm_readers_errors.specs.WasmSpec.Closing.{positions, start_unless}
use Rattle.wasm_readers_errors.specs.WasmSpec.TypeLists.{use_of_id, resolve_listed, listed_tree}
use Rattle.wasm_readers_errors.proofs.WasmSpec.Agreement.{agree_sub}
use Rattle.wasm_readers_errors.proofs.WasmSpec.SyntaxMaps.{map_sub-map}
use Rattle.wasm_readers_errors.proofs.WasmSpec.Closing.{members_of_closed}
use Rattle.wasm_readers_types.specs.SeenTypes.{sub_of}
use Rattle.wasm_readers_types.specs.WasmReadersValues.declared.indices.UnpackedIndex.{UnpackedIndex}
use Rattle.wasm_readers_types.specs.WasmReadersValues.declared.indices.UnpackedIndex.TheVariants.{Module, RecGroup, Id}
use Rattle.wasm_readers_types.specs.declared.types.SubType.{SubType}
use Rattle.wasm_validator_type_ancestors.specs.WasmValidatorTypeGroups.Groups.{all_in, first_of}
use Rattle.wasm_validator_type_list.specs.GroupOrder.{IsKnown, AreListable}
use Rattle.wasm_validator_type_list.specs.Lookups.{leads_to}
use Rattle.wasm_validator_type_list.specs.DefTypes.{listed_ref, listed_sub, listed_group, def_types, tree_behind}
use Rattle.wasm_validator_type_list.specs.DeclarationsById.{sub_by_ids, subs_by_ids, declares}
use Rattle.wasm_validator_type_list.specs.Laws.{TypesDeclareWhatIdsDeclare}
use Rattle.wasm_validator_type_ancestors.proofs.WasmValidatorTypeGroups.Places.{get-left, get-right, get-map, split-at}
use Rattle.wasm_validator_type_list.proofs.Lookups.{group_found}
use Rattle.wasm_validator_type_list.proofs.DefTypes.{place_in, get-positions, def_types-push, length-def_types, front}
use Rattle.wasm_validator_type_list.proofs.IdDeclarations.{IsDeclared, declared_by, declares-member}

-- a reference that is known behind ts and in a group of n members stands for what us has at the id that it leads to
module _ (ts us : List DefType) (t : RecTree) (start n : ℕ) (d : DefType)
    (early : (m : ℕ) → m < start → slice_get us m ≡ slice_get ts m) (long : start ≡ length ts) (own : (m : ℕ) → m < n → slice_get us (start + m) ≡ Some (place_in t m)) where
  ref-joined : (r : UnpackedIndex) → IsKnown start n r → denote t (resolve_listed ts (listed_ref r)) ≡ get_or us (leads_to start r) d
  ref-joined (Module i) h = absurd h
  ref-joined (RecGroup i) h = sym (get_or_from_slice_get us (start + i) (place_in t i) d (own i h))
  ref-joined (Id id) h =
      let k = id.index in
      let f = group_found ts k (omega (arith, h, long)) in
      ap (λ o. denote t (use_of_id o)) f.1 ∙ sym (get_or_from_slice_get us k f.0 d (early k h ∙ f.1))

  refs-joined : (rs : List UnpackedIndex) → AllByRecursion (IsKnown start n) rs → AllByRecursion (λ r. denote t (resolve_listed ts (listed_ref r)) ≡ get_or us (leads_to start r) d) rs
  refs-joined [] h = tt
  refs-joined (r ∷ rs) h = (ref-joined r h.0, refs-joined rs h.1)

  sub-joined : (s : Sub UnpackedIndex) → All (IsKnown start n) (refs_sub s) → map_sub (denote t) (map_sub (resolve_listed ts) (map_sub listed_ref s)) ≡ map_sub (λ i. get_or us i d) (map_sub (leads_to start) s)
  sub-joined s h =
      ap (map_sub (denote t)) (map_sub-map (resolve_listed ts) listed_ref s)
      ∙ map_sub-map (denote t) (λ r. resolve_listed ts (listed_ref r)) s
      ∙ agree_sub (λ r. denote t (resolve_listed ts (listed_ref r))) (λ r. get_or us (leads_to start r) d) s (refs-joined (refs_sub s) (recursion_from_All (IsKnown start n) (refs_sub s) h))
      ∙ sym (map_sub-map (λ i. get_or us i d) (leads_to start) s)

module _ {A : Type 0} (c : Bool) where
  -- what a place of a group's recursive type declares
  declared-member : (ts : List DefType) (g : List (SubType A)) (i : ℕ) (ty : SubType A) → slice_get g i ≡ Some ty
      → declared (place_in (listed_tree c ts (listed_group g)) i) ≡ Some (map_sub (denote (listed_tree c ts (listed_group g))) (map_sub (resolve_listed ts) (listed_sub ty)))
  unfolding declared
  declared-member ts g i ty e =
      let t = listed_tree c ts (listed_group g) in
      ap (λ ms. option_map (map_sub (denote t)) (slice_get ms i)) (members_of_closed (start_unless c (length ts)) (map (map_sub (resolve_listed ts)) (listed_group g)))
      ∙ ap (option_map (map_sub (denote t))) (get-map (map_sub (resolve_listed ts)) (listed_group g) i (listed_sub ty) (get-map listed_sub g i ty e))

  module _ (gs : List (List (SubType A))) (k : ℕ) (g : List (SubType A)) (e : slice_get gs k ≡ Some g) where
    -- the types of a list, around those of a group
    around : (more : List DefType) × (def_types c gs ≡ (def_types c (take k gs) ++ positions (tree_behind c (take k gs) g) 0 (listed_group g)) ++ more)
    around =
        let a = take k gs in
        let b = drop (k + 1) gs in
        let is : (a ++ g ∷ []) ++ b ≡ gs = append_assoc a (g ∷ []) b ∙ split-at gs k g e in
        let f = front c (a ++ g ∷ []) b in
        (f.0, ap (def_types c) (sym is) ∙ f.1 ∙ ap (λ l. l ++ f.0) (def_types-push c a g))

    early_at : (m : ℕ) → m < first_of gs k → slice_get (def_types c gs) m ≡ slice_get (def_types c (take k gs)) m
    early_at m l =
        let ts = def_types c (take k gs) in
        let here = positions (tree_behind c (take k gs) g) 0 (listed_group g) in
        let n : m < length ts = omega (arith, l, length-def_types c (take k gs)) in
        let o : m < length (ts ++ here) = omega (arith, n, length-append ts here) in
        ap (λ l. slice_get l m) around.1 ∙ get-left (ts ++ here) around.0 m o ∙ get-left ts here m n

    own_at : (m : ℕ) → m < length g → slice_get (def_types c gs) (first_of gs k + m) ≡ Some (place_in (tree_behind c (take k gs) g) m)
    own_at m l =
        let ts = def_types c (take k gs) in
        let t = tree_behind c (take k gs) g in
        let here = positions t 0 (listed_group g) in
        let n : m < length (listed_group g) = omega (arith, l, length-map g listed_sub) in
        let z : 0 + m ≡ m = omega arith in
        let there : slice_get here m ≡ Some (place_in t m) = get-positions t 0 (listed_group g) m n ∙ (λ j. Some (place_in t (z j))) in
        let place : first_of gs k + m ≡ length ts + m = omega (arith, length-def_types c (take k gs)) in
        let o : length ts + m < length (ts ++ here) = omega (arith, length-append ts here, slice_get_within here m (place_in t m) there) in
        ap (slice_get (def_types c gs)) place ∙ ap (λ l. slice_get l (length ts + m)) around.1 ∙ get-left (ts ++ here) around.0 (length ts + m) o ∙ get-right ts here m ∙ there

    member-joined : (i : ℕ) (ty : SubType A) (d x : DefType) → slice_get g i ≡ Some ty → All (IsKnown (first_of gs k) (length g)) (refs_sub (sub_of ty)) → slice_get (def_types c gs) (first_of gs k + i) ≡ Some d
        → declared d ≡ option_map (map_sub (λ j. get_or (def_types c gs) j x)) (declares gs (first_of gs k + i))
    member-joined i ty d x f known h =
        let ts = def_types c (take k gs) in
        let t = tree_behind c (take k gs) g in
        let at = λ (j : ℕ). get_or (def_types c gs) j x in
        let same : d ≡ place_in t i = same_Some d (place_in t i) (sym h ∙ own_at i (slice_get_within g i ty f)) in
        let long : first_of gs k ≡ length ts = sym (length-def_types c (take k gs)) in
        ap declared same ∙ declared-member ts g i ty f
        ∙ ap Some (sub-joined ts (def_types c gs) t (first_of gs k) (length g) x early_at long own_at (sub_of ty) known)
        ∙ sym (ap (option_map (map_sub at)) (declares-member gs k i g ty e f))

module _ {A : Type 0} where
  -- each place of the list is a member of a group
  pub length-subs : (gs : List (List (SubType A))) (start : ℕ) → length (subs_by_ids start gs) ≡ length (all_in gs)
  length-subs [] start = refl
  length-subs (g ∷ gs) start =
      omega (arith, length-subs gs (start + length g), length-append (map (sub_by_ids start) g) (subs_by_ids (start + length g) gs), length-map g (sub_by_ids start), length-append g (all_in gs))

  declared_at : (gs : List (List (SubType A))) (id : ℕ) → id < length (all_in gs) → (s : Sub ℕ) × (declares gs id ≡ Some s)
  unfolding declares
  declared_at gs id h = group_found (subs_by_ids 0 gs) id (omega (arith, h, length-subs gs 0))

  id-joined : (c : Bool) (gs : List (List (SubType A))) → AreListable gs → (id : ℕ) (d x : DefType) → slice_get (def_types c gs) id ≡ Some d
      → (s : Sub ℕ) → IsDeclared gs 0 id s → declared d ≡ option_map (map_sub (λ i. get_or (def_types c gs) i x)) (declares gs id)
  id-joined c gs h id d x e s p =
      let P = λ (ty : SubType A). All (IsKnown (first_of gs p.group) (length p.members)) (refs_sub (sub_of ty)) in
      let known : P p.ty = subst P (get_or_from_slice_get p.members p.position p.ty p.ty p.member) ((h p.group p.members p.there).known p.position p.ty (slice_get_within p.members p.position p.ty p.member)) in
      subst (λ j. slice_get (def_types c gs) j ≡ Some d → declared d ≡ option_map (map_sub (λ i. get_or (def_types c gs) i x)) (declares gs j)) (sym p.place)
      (member-joined c gs p.group p.members p.there p.position p.ty d x p.member known) e

pub types_declare_what_ids_declare : {A : Type 0} → TypesDeclareWhatIdsDeclare A
types_declare_what_ids_declare c gs x h id d e =
    let s = declared_at gs id (omega (arith, slice_get_within (def_types c gs) id d e, length-def_types c gs)) in
    id-joined c gs h id d x e s.0 (declared_by gs id s.0 s.1)
