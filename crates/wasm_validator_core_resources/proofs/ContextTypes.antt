-- What the context of a module says of types.
use Rattle.std.proofs.Common.{◌≡◌, ◌⊎◌, ⊎_elim, refl, sym, ap, ◌∙◌, ℕ, zero, suc, ◌<◌, Bool, true, false, true≢false, ◌||◌, List, [], ◌∷◌, length, map, Option, Some, None, option_map, slice_get, arith, Bor}
use Rattle.std.specs.Prelude.{IsSome, IfSome, ◌↔◌, slice_index_or}
use Rattle.std.proofs.lemmas.Option.{slice_get-map, slice_get_read, slice_get_past}
use Rattle.wasm_spec.specs.Syntax.{Sub, map_sub}
use Rattle.wasm_spec.specs.SupertypeOrder.{supertype}
use Rattle.wasm_validator_resources.specs.WasmSpecRules.Contexts.{Context}
use Rattle.wasm_readers_types.specs.SeenTypes.{sub_of}
use Rattle.wasm_readers_types.specs.WasmReadersValues.declared.indices.CoreTypeId.{CoreTypeId}
use Rattle.wasm_readers_types.specs.WasmReadersValues.declared.indices.UnpackedIndex.{UnpackedIndex}
use Rattle.wasm_readers_types.specs.WasmReadersValues.declared.indices.UnpackedIndex.TheVariants.{Module, RecGroup, Id}
use Rattle.wasm_readers_types.specs.declared.types.SubType.{SubType}
use Rattle.wasm_validator_type_list.specs.DeclarationsById.{subs_by_ids, declares}
use Rattle.wasm_validator_type_list.specs.Worlds.{ids_world}
use Rattle.wasm_validator_resources.specs.WasmSpecRules.Attempts.{◌>>=◌, passes}
use Rattle.wasm_validator_resources.specs.WasmSpecRules.Worlds.{declared_in, is_below}
use Rattle.wasm_validator_resources.specs.Answers.{same_index, world}
use Rattle.wasm_validator_core_resources.specs.ListContexts.{IsNoId, IsSeen}
use Rattle.wasm_validator_core_resources.specs.IndexContexts.{id_of}
use Rattle.wasm_validator_core_resources.proofs.ListWorlds.{lists_are_seen}
use Rattle.wasm_validator_core_resources.specs.declared.resources.ModuleResources.TheInside.{Inside}
use Rattle.wasm_validator_core_resources.specs.ModuleLookups.{shown, IsSound}

-- what is not an id of the list
abbrev pub IsNotId : UnpackedIndex → Type 0
IsNotId a = ((x : ℕ) × (a ≡ Module x)) ⊎ ((x : ℕ) × (a ≡ RecGroup x))

no_id : (a : UnpackedIndex) → IsNotId a → IsNoId id_of same_index a
no_id a h n = ⊎_elim (λ (p : (x : ℕ) × (a ≡ Module x)). ap (same_index (id_of n)) p.1) (λ (p : (x : ℕ) × (a ≡ RecGroup x)). ap (same_index (id_of n)) p.1) h

module _ {A : Type 0} where
  as_read : (r : Option (Bor (SubType A))) → option_map (λ t. sub_of t.now) r ≡ option_map sub_of (option_map (λ (t : Bor (SubType A)). t.now) r)
  as_read None = refl
  as_read (Some t) = refl

  read : (ts : List (SubType A)) (i : ℕ) (r : Option (Bor (SubType A))) → IsSome r ↔ (i < length ts) → IfSome r (λ t. t.now ≡ slice_index_or ts i t.now) → option_map (λ (t : Bor (SubType A)). t.now) r ≡ slice_get ts i
  read ts i None w h =
      let other : i < length ts → ⊥ = λ l. true≢false (sym (w.1 l)) in
      sym (slice_get_past ts i (omega (arith, other)))
  read ts i (Some t) w h = sym (slice_get_read ts (length ts) i t.now refl (w.0 refl) h)

  module _ (a : Inside A) (C : Context UnpackedIndex) (e : shown a ≡ C) (sound : IsSound a) where
    pub seen : IsSeen same_index id_of a.list.now.groups C
    seen = lists_are_seen same_index id_of (λ m n. refl) a.list.now.groups sound.listable C (ap (λ (D : Context UnpackedIndex). D.declares) (sym e))

    by_ids : (i : ℕ) → option_map sub_of (slice_get a.types.now i) ≡ option_map (map_sub id_of) (declares a.list.now.groups i)
    unfolding declares
    by_ids i =
        sym (slice_get-map sub_of a.types.now i)
        ∙ ap (λ (ts : List (Sub UnpackedIndex)). slice_get ts i) sound.types
        ∙ slice_get-map (map_sub id_of) (subs_by_ids 0 a.list.now.groups) i

    -- what is read under an id is what it declares
    pub type_read :
        (id : CoreTypeId) (i : ℕ) (r : Option (Bor (SubType A))) → i ≡ id.index → IsSome r ↔ (i < length a.types.now)
        → IfSome r (λ t. t.now ≡ slice_index_or a.types.now i t.now) → option_map (λ t. sub_of t.now) r ≡ (world C).declared (Id id)
    type_read id i r n when value =
        as_read r ∙ ap (option_map sub_of) (read a.types.now i r when value) ∙ ap (λ k. option_map sub_of (slice_get a.types.now k)) n
        ∙ by_ids id.index ∙ sym (seen.renames.declared id.index)

    -- and what is no id declares nothing, and is below itself alone
    pub none_declared : (b : UnpackedIndex) → IsNotId b → None ≡ (world C).declared b
    none_declared b h = sym (seen.nothing_declared b (no_id b h))

    pub not_below : (b c : UnpackedIndex) → IsNotId b → same_index b c ≡ (world C).below b c
    not_below b c h = sym (seen.nothing_below b c (no_id b h))

    pub ids_below : (x y : UnpackedIndex) (m n : CoreTypeId) (r : Bool) → x ≡ Id m → y ≡ Id n → r ≡ (ids_world a.list.now.groups).below m.index n.index → r ≡ (world C).below x y
    ids_below x y m n r p q h = h ∙ sym (seen.renames.below m.index n.index) ∙ sym (λ i. (world C).below (p i) (q i))

    -- nor is it above an id
    above_none : (b : UnpackedIndex) (n : ℕ) → ((m : ℕ) → is_below same_index C.declares n (id_of m) b ≡ false) → (xs : List ℕ) → passes (λ c. is_below same_index C.declares n c b) (slice_get (map id_of xs) 0) ≡ false
    above_none b n h [] = refl
    above_none b n h (x ∷ xs) = h x

    up_from : (b : UnpackedIndex) (n : ℕ) → ((m : ℕ) → is_below same_index C.declares n (id_of m) b ≡ false) → (o : Option (Sub ℕ)) → passes (λ c. is_below same_index C.declares n c b) (option_map (map_sub id_of) o >>= supertype) ≡ false
    up_from b n h None = refl
    up_from b n h (Some s) = above_none b n h s.supers

    either_false : (x y : Bool) → x ≡ false → y ≡ false → (x || y) ≡ false
    either_false true y p q = p
    either_false false y p q = q

    none_within : (b : UnpackedIndex) → IsNoId id_of same_index b → (n m : ℕ) → is_below same_index C.declares n (id_of m) b ≡ false
    none_within b h zero m = h m
    none_within b h (suc n) m =
        either_false (same_index (id_of m) b) (passes (λ c. is_below same_index C.declares n c b) (declared_in same_index C.declares (id_of m) >>= supertype)) (h m)
        (ap (λ (o : Option (Sub UnpackedIndex)). passes (λ c. is_below same_index C.declares n c b) (o >>= supertype)) (seen.renames.declared m) ∙ up_from b n (λ k. none_within b h n k) (declares a.list.now.groups m))

    pub not_above : (x b : UnpackedIndex) (m : CoreTypeId) → x ≡ Id m → IsNotId b → false ≡ (world C).below x b
    not_above x b m p h = sym (ap (λ y. (world C).below y b) p ∙ none_within b (no_id b h) (length C.declares) m.index)
