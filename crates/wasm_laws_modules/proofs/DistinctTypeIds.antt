-- The distinct types of a module under the ids that they have in a list.
use Rattle.std.proofs.Common.{◌≡◌, refl, sym, ap, subst, ◌∙◌, ℕ, zero, suc, ◌+◌, ◌<◌, true, false, List, [], ◌∷◌, length, slice_get, Option, Some, None, option_map, All, arith}
use Rattle.std.specs.Option.{option_and_then}
use Rattle.std.specs.List.{Contains, AllZip, AllByRecursion}
use Rattle.std.proofs.lemmas.List.Elements.{All-contains, All-nil, recursion_from_All}
use Rattle.std.proofs.lemmas.Option.{none-some, same_Some, slice_get_within}
use Rattle.wasm_spec.specs.Syntax.{Sub, map_sub}
use Rattle.wasm_spec.specs.References.{refs_sub}
use Rattle.wasm_spec.specs.Features.{Features, canonical}
use Rattle.wasm_spec.specs.SupertypeOrder.{supertype, supertype_of}
use Rattle.wasm_spec.specs.MatchingTests.{IsWorld}
use Rattle.wasm_spec.specs.GroupRules.{IsValidType}
use Rattle.wasm_spec.specs.Trees.{TypeUse, DefType, members, denote, declared}
use Rattle.wasm_spec.specs.TypeLaws.{HasNoRepetition, AreAccepted}
use Rattle.wasm_spec.proofs.Agreement.{agree_sub}
use Rattle.wasm_spec.proofs.SyntaxMaps.{map_sub-map}
use Rattle.wasm_spec_rules.specs.Contexts.{Context, AreFirst}
use Rattle.wasm_spec_rules.specs.Worlds.{world_of}
use Rattle.wasm_readers_types.specs.WasmReadersValues.declared.indices.UnpackedIndex.{UnpackedIndex}
use Rattle.wasm_validator_type_groups.specs.Elements.{numbers_from}
use Rattle.wasm_validator_type_list.proofs.Lookups.{group_found}
use Rattle.wasm_laws_core.specs.WasmValidatorCanonical.Groups.{AreValid}
use Rattle.wasm_laws_core.specs.WasmValidatorCanonical.Sections.{StandsFor}
use Rattle.wasm_laws_core.proofs.WasmValidatorCanonical.LoneTypes.{valid_alone, alone_before, alone_same}
use Rattle.wasm_spec_validity.specs.WasmSpecSteps.Renaming.{Renames}
use Rattle.wasm_laws_core.specs.WasmValidatorCoreResources.IndexContexts.{id_of, same_index}
use Rattle.wasm_laws_core.specs.ListedTypes.{id_in, types_declare}
use Rattle.wasm_laws_core.specs.TypeNumbers.{AreNumbered, same_number, identity_or, identity_at}
use Rattle.wasm_laws_core.proofs.AcceptedTypeNumbers.{all_of, accepted_types_are_numbered}
use Rattle.wasm_laws_core.proofs.IndexRanges.{zip_at, zip-length}
use Rattle.wasm_laws_core.proofs.ListedTypes.{number-is}
use Rattle.wasm_laws_core.proofs.NumbersAndIds.{place_of, contains_at}
use Rattle.wasm_laws_modules.proofs.Depths.{ancestors, fewer}
use Rattle.wasm_laws_modules.proofs.Entries.{EachDeclares, entries}
use Rattle.wasm_laws_modules.proofs.Numbers.{first_of_all, numbers_are_right}
use Rattle.wasm_laws_modules.proofs.ContextRenamings.{IsLike, ids_rename}

-- an id for each type
found_ids : (P : ℕ → DefType → Type 0) (ds : List DefType) → AllByRecursion (λ d. (id : ℕ) × P id d) ds → (ids : List ℕ) × AllZip P ids ds
found_ids P [] h = ([], tt)
found_ids P (d ∷ ds) h = let r = found_ids P ds h.1 in (h.0.0 ∷ r.0, (h.0.1, r.1))

zipped : (P : ℕ → DefType → Type 0) (ids : List ℕ) (ds : List DefType) → AllZip P ids ds → (k id : ℕ) (d : DefType) → slice_get ds k ≡ Some d → slice_get ids k ≡ Some id → P id d
zipped P ids ds z k id d e g = let x = zip_at P ids ds z k d e in subst (λ j. P j d) (same_Some x.0 id (sym x.1 ∙ g)) x.2

all_declare : (F : Features) (us : List DefType) → AreValid F us → EachDeclares us
all_declare F us valid k d e = let v = All-contains (IsValidType F declared) us d valid (contains_at us k d e) in (v.sub, v.declares)

-- numbers one after another
counted : (first m j x : ℕ) → slice_get (numbers_from first m) j ≡ Some x → x ≡ first + j
counted first zero j x e = absurd (none-some x e)
counted first (suc m) zero x e = let h : first ≡ x = same_Some first x e in omega (arith, h)
counted first (suc m) (suc j) x e = let h : x ≡ (first + 1) + j = counted (first + 1) m j x e in omega (arith, h)

-- a type without references, at the same position of a recursive type with the same members
declare_same : (f h : TypeUse → DefType) (o : Option (Sub TypeUse)) (s : Sub DefType) → option_map (map_sub f) o ≡ Some s → refs_sub s ≡ [] → option_map (map_sub f) o ≡ option_map (map_sub h) o
declare_same f h None s e n = refl
declare_same f h (Some m) s e n = ap Some (alone_same f h m (alone_before f m (ap refs_sub (same_Some (map_sub f m) s e) ∙ n)))

same_declared : (d e : DefType) (s : Sub DefType) → d.position ≡ e.position → members d.tree ≡ members e.tree → declared d ≡ Some s → refs_sub s ≡ [] → declared d ≡ declared e
unfolding declared
same_declared d e s p m h n =
    declare_same (denote d.tree) (denote e.tree) (slice_get (members d.tree) d.position) s h n
    ∙ (λ i. option_map (map_sub (denote e.tree)) (slice_get (m i) (p i)))

no_supertype : (d x : DefType) (s : Sub DefType) → declared d ≡ Some s → refs_sub s ≡ [] → supertype_of declared d ≡ Some x → ⊥
no_supertype d x s e n g =
    first_of_all (λ y. ⊥) s.supers (refs_sub (record s { supers = [] })) x (subst (All (λ (y : DefType). ⊥)) (sym n) (All-nil (λ (y : DefType). ⊥))) (sym (ap (option_and_then supertype) e) ∙ g)

-- The identity of each distinct type, so that what is said of ids is what is said of numbers.
pub record AreRenamed (us : List DefType) (sids : List ℕ) (types distinct : List DefType) (n : DefType → ℕ) : Type 0 where
  pub ids : List ℕ
  pub back : (j y : ℕ) (d : DefType) → slice_get types j ≡ Some d → slice_get sids j ≡ Some y → id_of y ≡ identity_at ids (n d)
  pub renames :
      (C : Context ℕ) → C.declares ≡ entries n distinct → (D : Context UnpackedIndex) → D.declares ≡ types_declare us us
      → Renames (identity_at ids) (world_of same_number C) (world_of same_index D)
  pub right : (C : Context ℕ) → C.declares ≡ entries n distinct → IsWorld (world_of same_number C)

module _ (F : Features) (us : List DefType) (valid : AreValid F us) (one : HasNoRepetition us) (sids : List ℕ) (types : List DefType) (stand : AllZip (StandsFor (canonical F) us) sids types)
    (accepted : AreAccepted F declared types) (distinct : List DefType) (first : AreFirst types distinct) (n : DefType → ℕ) (numbers : (k : ℕ) (d : DefType) → slice_get distinct k ≡ Some d → n d ≡ k) where
  are : AreNumbered n distinct
  are = accepted_types_are_numbered F types distinct n accepted first numbers

  is_valid : (j : ℕ) (d : DefType) → slice_get types j ≡ Some d → IsValidType F declared d
  is_valid j d e = All-contains (IsValidType F declared) types d accepted.valid (contains_at types j d e)

  -- where two ids of a type are one, and two types of an id
  module _ (one_id : (j k x y : ℕ) (d : DefType) → slice_get types j ≡ Some d → slice_get types k ≡ Some d → slice_get sids j ≡ Some x → slice_get sids k ≡ Some y → x ≡ y)
      (one_type : (j k x : ℕ) (d e : DefType) → slice_get types j ≡ Some d → slice_get types k ≡ Some e → slice_get sids j ≡ Some x → slice_get sids k ≡ Some x → d ≡ e) where
    abbrev HasId : ℕ → DefType → Type 0
    HasId id d = (j : ℕ) × (slice_get types j ≡ Some d) × (slice_get sids j ≡ Some id)

    has_id : (d : DefType) → Contains types d → (id : ℕ) × HasId id d
    has_id d c = let e : slice_get types c.0 ≡ Some d = place_of types d c in let z = zip_at (StandsFor (canonical F) us) sids types stand c.0 d e in (z.0, (c.0, e, z.1))

    chosen : (ids : List ℕ) × AllZip HasId ids distinct
    chosen = found_ids HasId distinct (recursion_from_All (λ d. (id : ℕ) × HasId id d) distinct (all_of (Contains types) (λ d. (id : ℕ) × HasId id d) has_id distinct first.only))

    abbrev ids : List ℕ
    ids = chosen.0

    as_many : length ids ≡ length distinct
    as_many = zip-length HasId ids distinct chosen.1

    apart : (a b x : ℕ) → slice_get ids a ≡ Some x → slice_get ids b ≡ Some x → a ≡ b
    apart a b x e g =
        let d = group_found distinct a (omega (arith, slice_get_within ids a x e, as_many)) in
        let c = group_found distinct b (omega (arith, slice_get_within ids b x g, as_many)) in
        let h = zipped HasId ids distinct chosen.1 a x d.0 d.1 e in
        let k = zipped HasId ids distinct chosen.1 b x c.0 c.1 g in
        let same : d.0 ≡ c.0 = one_type h.0 k.0 x d.0 c.0 h.1 k.1 h.2 k.2 in
        first.once.one_id a b d.0 d.1 (c.1 ∙ ap Some (sym same))

    back : (j y : ℕ) (d : DefType) → slice_get types j ≡ Some d → slice_get sids j ≡ Some y → id_of y ≡ identity_at ids (n d)
    back j y d e g =
        let c : Contains distinct d = All-contains (Contains distinct) types d first.all (contains_at types j d e) in
        let at : slice_get distinct c.0 ≡ Some d = place_of distinct d c in
        let z = zip_at HasId ids distinct chosen.1 c.0 d at in
        let same : y ≡ z.0 = one_id j z.2.0 y z.0 d e z.2.1 g z.2.2 in
        ap id_of same ∙ ap (identity_or c.0) (sym z.1) ∙ ap (identity_at ids) (sym (are.number c.0 d at))

    -- where the type of the list declares what the module's does, renamed
    module _ (height : DefType → ℕ) (down : (d x : DefType) → Contains types d → supertype_of declared d ≡ Some x → height x < height d)
        (as_high : (id : ℕ) (d : DefType) (p : StandsFor (canonical F) us id d) → height p.listed ≡ height d)
        (same_sub : (j id : ℕ) (d : DefType) (s : Sub DefType) (p : StandsFor (canonical F) us id d) → slice_get types j ≡ Some d → declared d ≡ Some s → (declared p.listed ≡ Some s) × (map_sub (id_in us) s ≡ map_sub (λ r. identity_at ids (n r)) s)) where
      like : (k id : ℕ) (d : DefType) → slice_get distinct k ≡ Some d → slice_get ids k ≡ Some id → IsLike us ids n height id d
      like k id d e g =
          let h = zipped HasId ids distinct chosen.1 k id d e g in
          let p = zipped (StandsFor (canonical F) us) sids types stand h.0 id d h.1 h.2 in
          let v = is_valid h.0 d h.1 in
          let s = same_sub h.0 id d v.sub p h.1 v.declares in
          record {
            listed = p.listed;
            there = p.is_there;
            declares = ap (option_map (map_sub (id_in us))) s.0 ∙ ap Some (s.1 ∙ sym (map_sub-map (identity_at ids) n v.sub))
                ∙ sym (ap (λ (o : Option (Sub DefType)). option_map (map_sub (identity_at ids)) (option_map (map_sub n) o)) v.declares);
            as_high = as_high id d p;
          }

      renamed : AreRenamed us sids types distinct n
      renamed = record {
        ids = ids;
        back = back;
        renames = ids_rename n distinct are us (all_declare F us valid) one ids as_many apart height
            (λ d x c g. down d x (All-contains (Contains types) distinct d first.only c) g) like;
        right = numbers_are_right n distinct are height (λ d x c g. down d x (All-contains (Contains types) distinct d first.only c) g);
      }

  -- equal types are one
  module _ (on : canonical F ≡ true) where
    one_id_on : (j k x y : ℕ) (d : DefType) → slice_get types j ≡ Some d → slice_get types k ≡ Some d → slice_get sids j ≡ Some x → slice_get sids k ≡ Some y → x ≡ y
    one_id_on j k x y d e g a b =
        let p = zipped (StandsFor (canonical F) us) sids types stand j x d e a in
        let q = zipped (StandsFor (canonical F) us) sids types stand k y d g b in
        one.one_id x y d (p.is_there ∙ ap Some (p.same on)) (q.is_there ∙ ap Some (q.same on))

    one_type_on : (j k x : ℕ) (d e : DefType) → slice_get types j ≡ Some d → slice_get types k ≡ Some e → slice_get sids j ≡ Some x → slice_get sids k ≡ Some x → d ≡ e
    one_type_on j k x d e g h a b =
        let p = zipped (StandsFor (canonical F) us) sids types stand j x d g a in
        let q = zipped (StandsFor (canonical F) us) sids types stand k x e h b in
        same_Some d e (sym (p.is_there ∙ ap Some (p.same on)) ∙ q.is_there ∙ ap Some (q.same on))

    abbrev ids_on : List ℕ
    ids_on = ids one_id_on one_type_on

    mentioned : (r : DefType) → Contains types r → id_in us r ≡ identity_at ids_on (n r)
    mentioned r c =
        let e : slice_get types c.0 ≡ Some r = place_of types r c in
        let z = zip_at (StandsFor (canonical F) us) sids types stand c.0 r e in
        ap id_of (number-is us one z.0 r (z.2.is_there ∙ ap Some (z.2.same on))) ∙ back one_id_on one_type_on c.0 z.0 r e z.1

    same_sub_on : (j id : ℕ) (d : DefType) (s : Sub DefType) (p : StandsFor (canonical F) us id d) → slice_get types j ≡ Some d → declared d ≡ Some s
        → (declared p.listed ≡ Some s) × (map_sub (id_in us) s ≡ map_sub (λ r. identity_at ids_on (n r)) s)
    same_sub_on j id d s p e g = (
      ap declared (p.same on) ∙ g,
      agree_sub (id_in us) (λ r. identity_at ids_on (n r)) s
          (recursion_from_All (λ r. id_in us r ≡ identity_at ids_on (n r)) (refs_sub s)
          (all_of (Contains types) (λ r. id_in us r ≡ identity_at ids_on (n r)) mentioned (refs_sub s) (accepted.mentioned d s (contains_at types j d e) g))),
    )

    down_on : (d x : DefType) → Contains types d → supertype_of declared d ≡ Some x → ancestors 64 x < ancestors 64 d
    down_on d x c g = let v = All-contains (IsValidType F declared) types d accepted.valid c in fewer 63 d x v.rules.few_ancestors g

    pub renamed_on : AreRenamed us sids types distinct n
    renamed_on = renamed one_id_on one_type_on (ancestors 64) down_on (λ id d p. ap (ancestors 64) (p.same on)) same_sub_on

  -- equal types aren't one
  module _ (off : canonical F ≡ false) (once : HasNoRepetition types) (begin : ℕ) (own : sids ≡ numbers_from begin (length sids)) where
    one_id_off : (j k x y : ℕ) (d : DefType) → slice_get types j ≡ Some d → slice_get types k ≡ Some d → slice_get sids j ≡ Some x → slice_get sids k ≡ Some y → x ≡ y
    one_id_off j k x y d e g a b = same_Some x y (sym a ∙ ap (slice_get sids) (once.one_id j k d e g) ∙ b)

    one_type_off : (j k x : ℕ) (d e : DefType) → slice_get types j ≡ Some d → slice_get types k ≡ Some e → slice_get sids j ≡ Some x → slice_get sids k ≡ Some x → d ≡ e
    one_type_off j k x d e g h a b =
        let u : x ≡ begin + j = counted begin (length sids) j x (ap (λ l. slice_get l j) (sym own) ∙ a) in
        let v : x ≡ begin + k = counted begin (length sids) k x (ap (λ l. slice_get l k) (sym own) ∙ b) in
        let same : j ≡ k = omega (arith, u, v) in
        same_Some d e (sym g ∙ ap (slice_get types) same ∙ h)

    abbrev ids_off : List ℕ
    ids_off = ids one_id_off one_type_off

    alone : (d : DefType) (s : Sub DefType) → Contains types d → declared d ≡ Some s → refs_sub s ≡ []
    alone d s c e = valid_alone F off declared d s e (All-contains (IsValidType F declared) types d accepted.valid c)

    same_sub_off : (j id : ℕ) (d : DefType) (s : Sub DefType) (p : StandsFor (canonical F) us id d) → slice_get types j ≡ Some d → declared d ≡ Some s
        → (declared p.listed ≡ Some s) × (map_sub (id_in us) s ≡ map_sub (λ r. identity_at ids_off (n r)) s)
    same_sub_off j id d s p e g =
        let none = alone d s (contains_at types j d e) g in (
          sym (same_declared d p.listed s (sym p.same_position) (sym p.same_members) g none) ∙ g,
          alone_same (id_in us) (λ r. identity_at ids_off (n r)) s none,
        )

    down_off : (d x : DefType) → Contains types d → supertype_of declared d ≡ Some x → 0 < 0
    down_off d x c g =
        let v = All-contains (IsValidType F declared) types d accepted.valid c in
        absurd (no_supertype d x v.sub v.declares (alone d v.sub c v.declares) g)

    pub renamed_off : AreRenamed us sids types distinct n
    renamed_off = renamed one_id_off one_type_off (λ d. 0) down_off (λ id d p. refl) same_sub_off
