-- What a context says of the ids of a list of types is what a module's context says of the numbers of its distinct types, renamed.
use Rattle.std.proofs.Common.{◌≡◌, refl, sym, ap, ◌∙◌, ℕ, ◌<◌, ◌≤◌, ◌==◌, List, map, length, slice_get, Option, Some, None, option_map, arith}
use Rattle.std.specs.List.{Contains}
use Rattle.std.proofs.lemmas.Bool.Decides.{Decides-eqb}
use Rattle.std.proofs.lemmas.List.{length-map}
use Rattle.std.proofs.lemmas.Option.{none-some, same_Some, slice_get_within, slice_get-map}
use Rattle.wasm_spec.specs.Syntax.{Sub, map_sub}
use Rattle.wasm_spec.specs.SupertypeOrder.{supertype_of}
use Rattle.wasm_spec.specs.Trees.{DefType, declared}
use Rattle.wasm_spec.specs.TypeLaws.{HasNoRepetition}
use Rattle.wasm_spec_rules.specs.Contexts.{Context}
use Rattle.wasm_spec_rules.specs.Worlds.{declared_in, is_below, world_of}
use Rattle.wasm_readers_types.specs.WasmReadersValues.declared.indices.UnpackedIndex.{UnpackedIndex}
use Rattle.wasm_readers_types.specs.WasmReadersValues.declared.indices.UnpackedIndex.TheVariants.{Module}
use Rattle.wasm_validator_type_list.proofs.Lookups.{group_found}
use Rattle.wasm_spec_validity.specs.WasmSpecSteps.Renaming.{Renames}
use Rattle.wasm_laws_core.specs.WasmValidatorCoreResources.IndexContexts.{id_of, same_index}
use Rattle.wasm_laws_core.specs.ListedTypes.{number_in, id_in, types_declare}
use Rattle.wasm_laws_core.specs.TypeNumbers.{AreNumbered, same_number, identity_or, identity_at}
use Rattle.wasm_laws_core.proofs.NumbersBelow.{count_below, count-most, count-more}
use Rattle.wasm_laws_core.proofs.ListedTypes.{number-is}
use Rattle.wasm_laws_core.proofs.NumbersAndIds.{alike, other_number}
use Rattle.wasm_laws_core.proofs.ShortChains.{no_value, below-renamed}
use Rattle.wasm_laws_modules.proofs.Entries.{EachDeclares, entries, length-entries, found, none_found}
use Rattle.wasm_laws_modules.proofs.Numbers.{level, numbered, not_numbered, StepsDown, steps_down, rank, rank_down, few}

-- The type of the list under this id declares what d does, renamed, and is as high.
pub record IsLike (us : List DefType) (ids : List ℕ) (n height : DefType → ℕ) (id : ℕ) (d : DefType) : Type 0 where
  pub listed : DefType
  pub there : slice_get us id ≡ Some listed
  pub declares : option_map (map_sub (id_in us)) (declared listed) ≡ option_map (map_sub (identity_at ids)) (option_map (map_sub n) (declared d))
  pub as_high : height listed ≡ height d

module _ (n : DefType → ℕ) (distinct : List DefType) (are : AreNumbered n distinct) (us : List DefType) (declare : EachDeclares us) (one : HasNoRepetition us)
    (ids : List ℕ) (as_many : length ids ≡ length distinct) (apart : (a b x : ℕ) → slice_get ids a ≡ Some x → slice_get ids b ≡ Some x → a ≡ b) where
  abbrev f : ℕ → UnpackedIndex
  f = identity_at ids

  abbrev ds : List (UnpackedIndex × Sub UnpackedIndex)
  ds = types_declare us us

  type_there : (k id : ℕ) → slice_get ids k ≡ Some id → (d : DefType) × (slice_get distinct k ≡ Some d)
  type_there k id e = group_found distinct k (omega (arith, slice_get_within ids k id e, as_many))

  id_there : (k : ℕ) (d : DefType) → slice_get distinct k ≡ Some d → (id : ℕ) × (slice_get ids k ≡ Some id)
  id_there k d e = group_found ids k (omega (arith, slice_get_within distinct k d e, as_many))

  past : (k : ℕ) → slice_get ids k ≡ None → slice_get distinct k ≡ None
  past k e = no_value (slice_get distinct k) (λ d g. let i = id_there k d g in none-some i.0 (sym e ∙ i.1))

  -- which are the same
  kept-at : (a b : ℕ) (o p : Option ℕ) → slice_get ids a ≡ o → slice_get ids b ≡ p → same_index (identity_or a o) (identity_or b p) ≡ (a == b)
  kept-at a b None None g h = refl
  kept-at a b None (Some y) g h = sym (other_number a b (λ e. none-some y (sym g ∙ ap (slice_get ids) e ∙ h)))
  kept-at a b (Some x) None g h = sym (other_number a b (λ e. none-some x (sym h ∙ ap (slice_get ids) (sym e) ∙ g)))
  kept-at a b (Some x) (Some y) g h =
      alike (x == y) (a == b)
      (λ e. (Decides-eqb a b).1 (apart a b x g (h ∙ ap Some (sym ((Decides-eqb x y).0 e)))))
      (λ e. (Decides-eqb x y).1 (same_Some x y (sym g ∙ ap (slice_get ids) ((Decides-eqb a b).0 e) ∙ h)))

  kept : (a b : ℕ) → same_index (f a) (f b) ≡ same_number a b
  kept a b = kept-at a b (slice_get ids a) (slice_get ids b) refl refl

  -- what an id declares
  listed_at : (id : ℕ) (l : DefType) → slice_get us id ≡ Some l → declared_in same_index ds (id_of id) ≡ option_map (map_sub (id_in us)) (declared l)
  listed_at id l e =
      found same_index (id_in us) (id_of id) us id l declare e ((Decides-eqb (number_in us l) id).1 (number-is us one id l e))
      (λ j x u t. let w : number_in us x ≡ id = (Decides-eqb (number_in us x) id).0 t in sym (number-is us one j x u) ∙ w)

  not_listed : (k : ℕ) → declared_in same_index ds (Module k) ≡ None
  not_listed k = none_found same_index (id_in us) (Module k) us declare (λ j x u. refl)

  module _ (height : DefType → ℕ) (down : (d x : DefType) → Contains distinct d → supertype_of declared d ≡ Some x → height x < height d)
      (like : (k id : ℕ) (d : DefType) → slice_get distinct k ≡ Some d → slice_get ids k ≡ Some id → IsLike us ids n height id d) where
    declares-at : (k : ℕ) (o : Option ℕ) → slice_get ids k ≡ o → declared_in same_index ds (identity_or k o) ≡ option_map (map_sub f) (declared_in same_number (entries n distinct) k)
    declares-at k None e = not_listed k ∙ sym (ap (option_map (map_sub f)) (not_numbered n distinct are k (past k e)))
    declares-at k (Some id) e =
        let t = type_there k id e in
        let l = like k id t.0 t.1 e in
        listed_at id l.listed l.there ∙ l.declares ∙ sym (ap (option_map (map_sub f)) (numbered n distinct are k t.0 t.1))

    declares-all : (k : ℕ) → declared_in same_index ds (f k) ≡ option_map (map_sub f) (declared_in same_number (entries n distinct) k)
    declares-all k = declares-at k (slice_get ids k) refl

    -- a supertype is lower than its type, and so is its id
    abbrev high : ℕ → ℕ
    high k = count_below (level height (slice_get distinct k)) (map height us)

    high_down : (a y : ℕ) → StepsDown n distinct are height down a y → high y < high a
    high_down a y t =
        let u : level height (slice_get distinct a) ≡ height t.ty = ap (level height) t.ty_there in
        let v : level height (slice_get distinct y) ≡ height t.super = ap (level height) t.super_there in
        let i = id_there y t.super t.super_there in
        let k = like y i.0 t.super t.super_there i.1 in
        let there : slice_get (map height us) i.0 ≡ Some (height t.super) = slice_get-map height us i.0 ∙ ap (option_map height) k.there ∙ ap Some k.as_high in
        let m : count_below (height t.super) (map height us) < count_below (height t.ty) (map height us) = count-more i.0 (height t.super) (height t.ty) (map height us) there t.lower in
        omega (arith, ap (λ h. count_below h (map height us)) u, ap (λ h. count_below h (map height us)) v, m)

    few_listed : (a : ℕ) → high a ≤ length ds
    few_listed a = omega (arith, count-most (level height (slice_get distinct a)) (map height us), length-map us height, length-entries (id_in us) us declare)

    below-all : (a b : ℕ) → is_below same_index ds (length ds) (f a) (f b) ≡ is_below same_number (entries n distinct) (length (entries n distinct)) a b
    below-all a b =
        below-renamed same_number same_index f (entries n distinct) ds kept declares-all (rank n distinct are height down) high
        (λ x y e. let t = steps_down n distinct are height down x y e in (rank_down n distinct are height down x y t, high_down x y t))
        (length (entries n distinct)) (length ds) a b (few n distinct are height down a) (few_listed a)

    pub ids_rename : (C : Context ℕ) → C.declares ≡ entries n distinct → (D : Context UnpackedIndex) → D.declares ≡ ds → Renames f (world_of same_number C) (world_of same_index D)
    ids_rename C is_module D is_list = record {
      declared = λ a.
          ap (λ (xs : List (UnpackedIndex × Sub UnpackedIndex)). declared_in same_index xs (f a)) is_list
          ∙ declares-all a ∙ sym (ap (λ (xs : List (ℕ × Sub ℕ)). option_map (map_sub f) (declared_in same_number xs a)) is_module);
      below = λ a b.
          ap (λ (xs : List (UnpackedIndex × Sub UnpackedIndex)). is_below same_index xs (length xs) (f a) (f b)) is_list
          ∙ below-all a b ∙ sym (ap (λ (xs : List (ℕ × Sub ℕ)). is_below same_number xs (length xs) a b) is_module);
      same = kept;
    }
