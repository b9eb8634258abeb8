-- What the ids of a module's types stand for, as groups come, and which types are valid with them.
use Rattle.std.proofs.Common.{◌≡◌, refl, sym, ap, subst, ◌∙◌, ℕ, zero, suc, ◌+◌, ◌<◌, Bool, true, false, cond, List, [], ◌∷◌, ◌++◌, map, length, slice_get, get_or, Some, None, arith}
use Rattle.std.specs.Option.{option_map}
use Rattle.std.specs.List.{All, AllZip}
use Rattle.std.proofs.lemmas.List.{length-map}
use Rattle.std.proofs.lemmas.List.Elements.{All-head, All-tail}
use Rattle.std.proofs.lemmas.Option.{none-some, same_Some, slice_get_within}
use Rattle.wasm_spec.specs.Syntax.{Sub, Rec, map_sub}
use Rattle.wasm_spec.specs.References.{refs_sub}
use Rattle.wasm_spec.specs.Features.{Features, canonical}
use Rattle.wasm_spec.specs.Trees.{RecTree, TypeUse, DefType, close, members, denote, declared}
use Rattle.wasm_spec.specs.Closing.{is_closable, closed, positions, resolve, start_unless}
use Rattle.wasm_spec.specs.GroupRules.{IsValidType}
use Rattle.wasm_spec.proofs.ReferenceNumbers.{members-close}
use Rattle.wasm_spec.proofs.Closing.{slice_get-append_left}
use Rattle.wasm_spec_rules.proofs.Tests.{guarded}
use Rattle.wasm_validator_type_list.specs.WasmValidatorTypeGroups.Elements.{numbers_from}
use Rattle.wasm_validator_type_list.proofs.WasmValidatorTypeGroups.Places.{get-map}
use Rattle.wasm_validator_type_list.proofs.DefTypes.{get-positions}
use Rattle.wasm_validator_canonical.specs.Groups.{nowhere, types_at, placed, held, AreValid}
use Rattle.wasm_validator_canonical.specs.Sections.{StandsFor}
use Rattle.wasm_validator_canonical.proofs.TypePlaces.{StandAt}
use Rattle.wasm_validator_canonical.proofs.Lists.{all_from, all_at}
use Rattle.wasm_validator_canonical.proofs.KeptTypes.{held_front, new_ids}
use Rattle.wasm_validator_canonical.proofs.LoneTypes.{valid_alone, alone_before, alone_same, all_alike}

-- lists place by place
zip_append : {X Y : Type 0} (P : X → Y → Type 0) (xs : List X) (ys : List Y) (us : List X) (vs : List Y) → AllZip P xs ys → AllZip P us vs → AllZip P (xs ++ us) (ys ++ vs)
zip_append P [] [] us vs a b = b
zip_append P (x ∷ xs) (y ∷ ys) us vs a b = (a.0, zip_append P xs ys us vs a.1 b)
zip_append P [] (y ∷ ys) us vs a b = absurd a
zip_append P (x ∷ xs) [] us vs a b = absurd a

zip_map : {X Y : Type 0} (P Q : X → Y → Type 0) → ((x : X) (y : Y) → P x y → Q x y) → (xs : List X) (ys : List Y) → AllZip P xs ys → AllZip Q xs ys
zip_map P Q h [] [] a = tt
zip_map P Q h (x ∷ xs) (y ∷ ys) a = (h x y a.0, zip_map P Q h xs ys a.1)
zip_map P Q h [] (y ∷ ys) a = absurd a
zip_map P Q h (x ∷ xs) [] a = absurd a

pub zip_length : {X Y : Type 0} (P : X → Y → Type 0) (xs : List X) (ys : List Y) → AllZip P xs ys → length xs ≡ length ys
zip_length P [] [] a = refl
zip_length P (x ∷ xs) (y ∷ ys) a = ap suc (zip_length P xs ys a.1)
zip_length P [] (y ∷ ys) a = absurd a
zip_length P (x ∷ xs) [] a = absurd a

-- a type and more behind the list
stands_more : (c : Bool) (us more : List DefType) (id : ℕ) (d : DefType) → StandsFor c us id d → StandsFor c (us ++ more) id d
stands_more c us more id d s = record {
  listed = s.listed;
  is_there = slice_get-append_left us more id (slice_get_within us id s.listed s.is_there) ∙ s.is_there;
  same_position = s.same_position;
  same_members = s.same_members;
  same = s.same;
}

-- the ids are those of types of the module
module _ (c : Bool) (us : List DefType) where
  got : (xs : List DefType) (k : ℕ) (x : DefType) → slice_get xs k ≡ Some x → get_or xs k nowhere ≡ x
  got [] k x h = absurd (none-some x h)
  got (y ∷ xs) zero x h = same_Some y x h
  got (y ∷ xs) (suc k) x h = got xs k x h

  one_at : (id : ℕ) (d : DefType) → c ≡ true → StandsFor c us id d → get_or us id nowhere ≡ d
  one_at id d e s = got us id s.listed s.is_there ∙ s.same e

  types_are : (ids : List ℕ) (ts : List DefType) → c ≡ true → AllZip (StandsFor c us) ids ts → types_at us ids ≡ ts
  types_are [] [] e a = refl
  types_are (id ∷ ids) (t ∷ ts) e a = λ i. one_at id t e a.0 i ∷ types_are ids ts e a.1 i
  types_are [] (t ∷ ts) e a = absurd a
  types_are (id ∷ ids) [] e a = absurd a

either : {P : Type 0} (b : Bool) → (b ≡ true → P) → (b ≡ false → P) → P
either true f g = f refl
either false f g = g refl

-- a recursive type as the list has it
pub placed_members : (c : Bool) (n : ℕ) (t : RecTree) → members (placed c n t) ≡ members t
placed_members true n t = refl
placed_members false n t = members-close (Some n) (members t)

placed_same : (c : Bool) (n : ℕ) (t : RecTree) → c ≡ true → placed c n t ≡ t
placed_same true n t e = refl
placed_same false n t e = absurd cc

module _ (c : Bool) (us : List DefType) (t : RecTree) (m : ℕ) where
  positions_stand : {X : Type 0} (n i : ℕ) (xs : List X) → StandAt us n (positions (placed c m t) i xs) → AllZip (StandsFor c us) (numbers_from n (length (positions (placed c m t) i xs))) (positions t i xs)
  positions_stand n i [] h = tt
  positions_stand n i (x ∷ xs) h =
      let z : n ≡ n + 0 = omega arith in (
        record {
          listed = record { tree = placed c m t; position = i };
          is_there = ap (slice_get us) z ∙ h 0 (record { tree = placed c m t; position = i }) refl;
          same_position = refl;
          same_members = placed_members c m t;
          same = λ e. λ j. record { tree = placed_same c m t e j; position = i };
        },
        positions_stand (n + 1) (i + 1) xs (λ k d e. let w : (n + 1) + k ≡ n + suc k = omega arith in ap (slice_get us) w ∙ h (suc k) d e),
      )

-- what is held with the types of a group
module _ (F : Features) where
  abbrev pub Stand : List DefType → List ℕ → List DefType → Type 0
  Stand us ids ts = AllZip (StandsFor (canonical F) us) ids ts

  abbrev pub held_with : List DefType → List ℕ → Rec ℕ → RecTree → List DefType × List ℕ
  held_with us ids g t = held (canonical F) us ids (positions (placed (canonical F) (length us) t) 0 g.types)

  pub held_stand : (us : List DefType) (ids : List ℕ) (ts : List DefType) (g : Rec ℕ) (t : RecTree) → Stand us ids ts → Stand (held_with us ids g t).0 (held_with us ids g t).1 (ts ++ positions t 0 g.types)
  held_stand us ids ts g t a =
      let c = canonical F in
      let ds = positions (placed c (length us) t) 0 g.types in
      let h = held c us ids ds in
      let f = held_front us ids ds c in
      let n = new_ids us ids ds c in
      let old : AllZip (StandsFor c h.0) ids ts = subst (λ xs. AllZip (StandsFor c xs) ids ts) (sym f.1) (zip_map (StandsFor c us) (StandsFor c (us ++ f.0)) (λ id d s. stands_more c us f.0 id d s) ids ts a) in
      let new : AllZip (StandsFor c h.0) (numbers_from n.start (length ds)) (positions t 0 g.types) = positions_stand c h.0 t (length us) n.start 0 g.types n.stand in
      subst (λ xs. AllZip (StandsFor c h.0) xs (ts ++ positions t 0 g.types)) (sym n.ids_are) (zip_append (StandsFor c h.0) ids ts (numbers_from n.start (length ds)) (positions t 0 g.types) old new)

-- sub types that mention no type
abbrev AreAlone : {R : Type 0} → List (Sub R) → Type 0
AreAlone ss = All (λ s. refs_sub s ≡ []) ss

module _ (F : Features) (us : List DefType) (ids : List ℕ) (ts : List DefType) (stand : Stand F us ids ts) (g : Rec ℕ) where
  same_subs : (f h : ℕ → TypeUse) (ss : List (Sub ℕ)) → AreAlone ss → map (map_sub f) ss ≡ map (map_sub h) ss
  same_subs f h [] a = refl
  same_subs f h (s ∷ ss) a = λ i. alone_same f h s (All-head (λ x. refs_sub x ≡ []) s ss a) i ∷ same_subs f h ss (All-tail (λ x. refs_sub x ≡ []) s ss a) i

  -- closing over what ids stand for is closing over the module's types
  pub same_closed : (canonical F ≡ false → AreAlone g.types) → closed F (types_at us ids) g ≡ closed F ts g
  same_closed alone =
      let many : length (types_at us ids) ≡ length ts = length-map ids (λ (id : ℕ). get_or us id nowhere) ∙ zip_length (StandsFor (canonical F) us) ids ts stand in
      either (canonical F)
      (λ e. ap (λ xs. closed F xs g) (types_are (canonical F) us ids ts e stand))
      (λ e. λ i. cond (is_closable F (many i) g) (Some (close (start_unless (canonical F) (many i)) (same_subs (resolve (types_at us ids)) (resolve ts) g.types (alone e) i))) None)

-- the types of a group that closes over these
module _ (F : Features) (xs : List DefType) (g : Rec ℕ) (t : RecTree) (e : closed F xs g ≡ Some t) where
  abbrev tree : RecTree
  tree = close (start_unless (canonical F) (length xs)) (map (map_sub (resolve xs)) g.types)

  closed_members : members t ≡ map (map_sub (resolve xs)) g.types
  closed_members =
      let h = guarded (is_closable F (length xs) g) (Some tree) t e in
      ap members (sym (same_Some tree t h.1)) ∙ members-close (start_unless (canonical F) (length xs)) (map (map_sub (resolve xs)) g.types)

  -- a recursive type with these members
  module _ (u : RecTree) (m : members u ≡ members t) where
    declares : (k : ℕ) (s : Sub ℕ) → slice_get g.types k ≡ Some s → declared (record { tree = u; position = k }) ≡ Some (map_sub (denote u) (map_sub (resolve xs) s))
    unfolding declared
    declares k s h =
        ap (λ ms. option_map (map_sub (denote u)) (slice_get ms k)) (m ∙ closed_members)
        ∙ ap (option_map (map_sub (denote u))) (get-map (map_sub (resolve xs)) g.types k s h)

    -- where its types are valid they mention no type, unless equal types are one
    pub closed_alone : All (IsValidType F declared) (positions u 0 g.types) → canonical F ≡ false → AreAlone g.types
    closed_alone v off =
        all_from (λ s. refs_sub s ≡ []) g.types
        (λ k s h.
        let d : DefType = record { tree = u; position = k } in
        let l : k < length g.types = slice_get_within g.types k s h in
        let z : 0 + k ≡ k = omega arith in
        let valid = all_at (IsValidType F declared) (positions u 0 g.types) v k d (get-positions u 0 g.types k l ∙ (λ i. Some (record { tree = u; position = z i }))) in
        alone_before (resolve xs) s (alone_before (denote u) (map_sub (resolve xs) s) (valid_alone F off declared d (map_sub (denote u) (map_sub (resolve xs) s)) (declares k s h) valid)))

-- the types of a recursive type are valid where those of the list's are
module _ (F : Features) (n : ℕ) (t : RecTree) where
  abbrev AreAllValid : {X : Type 0} → RecTree → List X → Type 0
  AreAllValid u xs = AreValid F (positions u 0 xs)

  pub valid_placed : {X : Type 0} (xs : List X) → AreAllValid t xs → AreAllValid (placed (canonical F) n t) xs
  valid_placed xs v =
      either (canonical F)
      (λ e. subst (λ u. AreAllValid u xs) (sym (placed_same (canonical F) n t e)) v)
      (λ e. all_alike F e t (placed (canonical F) n t) (sym (placed_members (canonical F) n t)) 0 xs v)

  pub placed_valid : {X : Type 0} (xs : List X) → AreAllValid (placed (canonical F) n t) xs → AreAllValid t xs
  placed_valid xs v =
      either (canonical F)
      (λ e. subst (λ u. AreAllValid u xs) (placed_same (canonical F) n t e) v)
      (λ e. all_alike F e (placed (canonical F) n t) t (placed_members (canonical F) n t) 0 xs v)

-- in a list of valid types those that stand in it are valid
pub standing_valid : (F : Features) (us : List DefType) (start : ℕ) (ds : List DefType) → StandAt us start ds → AreValid F us → AreValid F ds
standing_valid F us start ds h v = all_from (IsValidType F declared) ds (λ k d e. all_at (IsValidType F declared) us v (start + k) d (h k d e))
