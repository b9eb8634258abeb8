-- A module's types under their numbers, and under the ids that a list has for them.
use Rattle.std.proofs.Common.{◌≡◌, refl, sym, ap, subst, ◌∙◌, ℕ, zero, suc, ◌+◌, ◌<◌, ◌≤◌, Bool, true, false, ◌==◌, if◌then◌else◌, List, [], ◌∷◌, ◌++◌, map, length, get_or, slice_get, Option, Some, None, option_map, is_some, IsTrue, arith}
use Rattle.std.specs.Option.{option_and_then}
use Rattle.std.specs.List.{flat_map, All, Contains, AllByRecursion}
use Rattle.std.proofs.lemmas.Bool.Decides.{Decides-eqb}
use Rattle.std.proofs.lemmas.List.Elements.{All-contains, recursion_from_All}
use Rattle.std.proofs.lemmas.Option.{none-some, same_Some, slice_get_within, slice_get-get_or, slice_get-map, get_or_from_slice_get}
use Rattle.wasm_spec.specs.Syntax.{Sub, map_sub}
use Rattle.wasm_spec.specs.References.{refs_sub}
use Rattle.wasm_spec.specs.SupertypeOrder.{supertype, supertype_of}
use Rattle.wasm_spec.specs.Trees.{DefType, declared}
use Rattle.wasm_spec.specs.TypeLaws.{HasNoRepetition, AreIdsOf}
use Rattle.wasm_spec.proofs.Agreement.{agree_sub}
use Rattle.wasm_spec.proofs.SyntaxMaps.{map_sub-map}
use Rattle.wasm_spec_rules.specs.Attempts.{◌>>=◌}
use Rattle.wasm_spec_rules.specs.Contexts.{Context, declares_at}
use Rattle.wasm_spec_rules.specs.Worlds.{declared_in, is_below}
use Rattle.wasm_readers_types.specs.WasmReadersValues.declared.indices.CoreTypeId.{CoreTypeId}
use Rattle.wasm_readers_types.specs.WasmReadersValues.declared.indices.UnpackedIndex.{UnpackedIndex}
use Rattle.wasm_readers_types.specs.WasmReadersValues.declared.indices.UnpackedIndex.TheVariants.{Module, Id}
use Rattle.wasm_readers_types.specs.declared.types.SubType.{SubType}
use Rattle.wasm_validator_type_list.specs.GroupOrder.{AreListable}
use Rattle.wasm_validator_type_list.specs.DefTypes.{def_types}
use Rattle.wasm_validator_type_list.specs.DeclarationsById.{subs_by_ids, declares}
use Rattle.wasm_validator_type_list.proofs.Lookups.{group_found}
use Rattle.wasm_validator_type_list.proofs.IdDeclarations.{descends}
use Rattle.wasm_validator_type_list.proofs.DefTypes.{length-def_types}
use Rattle.wasm_validator_type_list.proofs.IdsAndTypes.{length-subs, types_declare_what_ids_declare}
use Rattle.wasm_spec.proofs.ClosedGroups.{refs_sub-map}
use Rattle.wasm_validator_core_resources.specs.ListContexts.{under_ids, list_declares}
use Rattle.wasm_validator_core_resources.specs.IndexContexts.{id_of, same_index}
use Rattle.wasm_validator_core_resources.proofs.IdReferences.{lists_are_listed}
use Rattle.wasm_laws_core.specs.TypeNumbers.{AreNumbered, same_number, identity_or, identity_at, IdsRenameNumbers}
use Rattle.wasm_laws_core.proofs.ShortChains.{no_value, above-renamed, below-renamed}
use Rattle.wasm_laws_core.proofs.NumbersBelow.{count_below, count-most, count-more}
use Rattle.wasm_laws_core.proofs.IdReferences.{inside}

-- two tests that hold alike
pub alike : (b c : Bool) → (b ≡ true → c ≡ true) → (c ≡ true → b ≡ true) → b ≡ c
alike true true g h = refl
alike false false g h = refl
alike true false g h = sym (g refl)
alike false true g h = h refl

pub not_true : (b : Bool) → (b ≡ true → ⊥) → b ≡ false
not_true true h = absurd (h refl)
not_true false h = refl

pub other_number : (a b : ℕ) → (a ≡ b → ⊥) → (a == b) ≡ false
other_number a b h = not_true (a == b) (λ e. h ((Decides-eqb a b).0 e))

-- places of a list
pub place_of : {X : Type 0} (xs : List X) (x : X) (c : Contains xs x) → slice_get xs c.0 ≡ Some x
place_of xs x c = slice_get-get_or xs c.0 x c.1 ∙ ap Some c.2

pub contains_at : {X : Type 0} (xs : List X) (k : ℕ) (x : X) → slice_get xs k ≡ Some x → Contains xs x
contains_at xs k x e = (k, slice_get_within xs k x e, get_or_from_slice_get xs k x x e)

pub value_of : {X : Type 0} (o : Option X) → IsTrue (is_some o) → (x : X) × (o ≡ Some x)
value_of None h = let e : false ≡ true = h in absurd cc
value_of (Some x) h = (x, refl)

-- what each of these types declares, under its number
module _ (n : DefType → ℕ) where
  abbrev item : DefType → List (ℕ × Sub ℕ)
  item d = declares_at n d (declared d)

  abbrev items : List DefType → List (ℕ × Sub ℕ)
  items ds = flat_map (λ (d : DefType). declares_at n d (declared d)) ds

  abbrev EachDeclares : List DefType → Type 0
  EachDeclares ds = (k : ℕ) (d : DefType) → slice_get ds k ≡ Some d → (s : Sub DefType) × (declared d ≡ Some s)

  first-item : (d : DefType) (ds : List DefType) (s : Sub DefType) → declared d ≡ Some s → items (d ∷ ds) ≡ (n d, map_sub n s) ∷ items ds
  first-item d ds s e = ap (λ o. declares_at n d o ++ items ds) e

  length-items : (ds : List DefType) → EachDeclares ds → length (items ds) ≡ length ds
  length-items [] h = refl
  length-items (d ∷ ds) h = let s = h 0 d refl in ap length (first-item d ds s.0 s.1) ∙ ap suc (length-items ds (λ k c e. h (suc k) c e))

  found : (start k m : ℕ) (ds : List DefType) → ((j : ℕ) (d : DefType) → slice_get ds j ≡ Some d → n d ≡ start + j) → EachDeclares ds → m ≡ start + k
      → declared_in same_number (items ds) m ≡ (slice_get ds k >>= λ d. option_map (map_sub n) (declared d))
  found start k m [] u h e = refl
  found start zero m (d ∷ ds) u h e =
      let s = h 0 d refl in
      let i : n d ≡ start + 0 = u 0 d refl in
      let here : (n d == m) ≡ true = (Decides-eqb (n d) m).1 (omega (arith, i, e)) in
      ap (λ xs. declared_in same_number xs m) (first-item d ds s.0 s.1)
      ∙ ap (λ (c : Bool). if c then Some (map_sub n s.0) else declared_in same_number (items ds) m) here
      ∙ sym (ap (option_map (map_sub n)) s.1)
  found start (suc k) m (d ∷ ds) u h e =
      let s = h 0 d refl in
      let i : n d ≡ start + 0 = u 0 d refl in
      let other : (n d == m) ≡ false = other_number (n d) m (λ g. omega (arith, i, e, g)) in
      ap (λ xs. declared_in same_number xs m) (first-item d ds s.0 s.1)
      ∙ ap (λ (c : Bool). if c then Some (map_sub n s.0) else declared_in same_number (items ds) m) other
      ∙ found (suc start) k m ds (λ j c g. let v : n c ≡ start + suc j = u (suc j) c g in omega (arith, v)) (λ j c g. h (suc j) c g) (omega (arith, e))

length-under : {R : Type 0} (f : ℕ → R) (k : ℕ) (ds : List (Sub ℕ)) → length (under_ids f k ds) ≡ length ds
length-under f k [] = refl
length-under f k (d ∷ ds) = ap suc (length-under f (suc k) ds)

-- an id that a renamed option names
named : (o : Option ℕ) (b : UnpackedIndex) → option_map id_of o ≡ Some b → (z : ℕ) × (o ≡ Some z) × (id_of z ≡ b)
named None b e = absurd (none-some b e)
named (Some z) b e = (z, refl, same_Some (id_of z) b e)

id-apart : (k z : ℕ) (o : Option ℕ) → id_of z ≡ identity_or k o → o ≡ Some z
id-apart k z None e = let g : Id (record { index = z }) ≡ Module k = e in absurd cc
id-apart k z (Some x) e =
    let a : CoreTypeId = record { index = x } in
    let b : CoreTypeId = record { index = z } in
    let g : Id a ≡ Id b = sym e in
    let h : a ≡ b = cc in
    ap (λ (i : CoreTypeId). Some i.index) h

first-renamed : (o : Option (Sub ℕ)) → (option_map (map_sub id_of) o >>= supertype) ≡ option_map id_of (option_and_then supertype o)
first-renamed None = refl
first-renamed (Some s) = slice_get-map id_of s.supers 0

abbrev number_or : Option ℕ → ℕ
number_or None = 0
number_or (Some id) = id

module _ {A : Type 0} (n : DefType → ℕ) (distinct : List DefType) (are : AreNumbered n distinct) (gs : List (List (SubType A))) (listable : AreListable gs) (one : HasNoRepetition (def_types true gs))
    (ids : List ℕ) (stand : AreIdsOf (def_types true gs) ids distinct) where
  abbrev us : List DefType
  us = def_types true gs

  abbrev f : ℕ → UnpackedIndex
  f k = identity_at ids k

  abbrev cs : List (ℕ × Sub ℕ)
  cs = items n distinct

  abbrev ds : List (UnpackedIndex × Sub UnpackedIndex)
  ds = list_declares id_of gs

  each_declares : EachDeclares n distinct
  each_declares k d e = value_of (declared d) (All-contains (λ x. IsTrue (is_some (declared x))) distinct d are.declare (contains_at distinct k d e))

  -- the type at a place, and its id
  type_there : (k id : ℕ) → slice_get ids k ≡ Some id → (d : DefType) × (slice_get distinct k ≡ Some d) × (slice_get us id ≡ Some d)
  type_there k id e =
      let g = group_found distinct k (omega (arith, slice_get_within ids k id e, stand.as_many)) in
      (g.0, g.1, stand.each k id e ∙ g.1)

  id_there : (k : ℕ) (d : DefType) → slice_get distinct k ≡ Some d → (id : ℕ) × (slice_get ids k ≡ Some id) × (slice_get us id ≡ Some d)
  id_there k d e =
      let g = group_found ids k (omega (arith, slice_get_within distinct k d e, stand.as_many)) in
      (g.0, g.1, stand.each k g.0 g.1 ∙ e)

  past : (k : ℕ) → slice_get ids k ≡ None → slice_get distinct k ≡ None
  past k e = no_value (slice_get distinct k) (λ d g. let i = id_there k d g in none-some i.0 (sym e ∙ i.1))

  -- which are the same
  same_ids : (a b x y : ℕ) → slice_get ids a ≡ Some x → slice_get ids b ≡ Some y → (x == y) ≡ (a == b)
  same_ids a b x y p q =
      let t = type_there a x p in
      let u = type_there b y q in
      alike (x == y) (a == b)
      (λ e.
      let g : x ≡ y = (Decides-eqb x y).0 e in
      let h : t.0 ≡ u.0 = same_Some t.0 u.0 (sym t.2 ∙ ap (slice_get us) g ∙ u.2) in
      (Decides-eqb a b).1 (sym (are.number a t.0 t.1) ∙ ap n h ∙ are.number b u.0 u.1))
      (λ e. let g : a ≡ b = (Decides-eqb a b).0 e in (Decides-eqb x y).1 (same_Some x y (sym p ∙ ap (slice_get ids) g ∙ q)))

  kept-at : (a b : ℕ) (o p : Option ℕ) → slice_get ids a ≡ o → slice_get ids b ≡ p → same_index (identity_or a o) (identity_or b p) ≡ (a == b)
  kept-at a b None None g h = refl
  kept-at a b None (Some y) g h = sym (other_number a b (λ e. none-some y (sym g ∙ ap (slice_get ids) e ∙ h)))
  kept-at a b (Some x) None g h = sym (other_number a b (λ e. none-some x (sym h ∙ ap (slice_get ids) (sym e) ∙ g)))
  kept-at a b (Some x) (Some y) g h = same_ids a b x y g h

  kept : (a b : ℕ) → same_index (f a) (f b) ≡ same_number a b
  kept a b = kept-at a b (slice_get ids a) (slice_get ids b) refl refl

  -- what an id of the list names is the type whose number leads back to it
  pub type-back : (r : ℕ) (d : DefType) → slice_get us r ≡ Some d → Contains distinct d → id_of r ≡ f (n d)
  type-back r d e c =
      let at : slice_get distinct c.0 ≡ Some d = place_of distinct d c in
      let i = id_there c.0 d at in
      let same : r ≡ i.0 = one.one_id r i.0 d e i.2 in
      ap id_of same ∙ ap (identity_or c.0) (sym i.1) ∙ ap f (sym (are.number c.0 d at))

  ref-back : (r : ℕ) (d : DefType) → r < length us → Contains distinct (get_or us r d) → id_of r ≡ f (n (get_or us r d))
  ref-back r d l c = type-back r (get_or us r d) (slice_get-get_or us r d l) c

  refs-back : (d : DefType) (rs : List ℕ) → AllByRecursion (λ r. r < length us) rs → AllByRecursion (Contains distinct) (map (λ r. get_or us r d) rs)
      → AllByRecursion (λ r. id_of r ≡ f (n (get_or us r d))) rs
  refs-back d [] u v = tt
  refs-back d (r ∷ rs) u v = (ref-back r d u.0 v.0, refs-back d rs u.1 v.1)

  sub-back : (id k : ℕ) (d : DefType) (s : Sub ℕ) → slice_get distinct k ≡ Some d → declares gs id ≡ Some s → declared d ≡ Some (map_sub (λ r. get_or us r d) s)
      → map_sub id_of s ≡ map_sub f (map_sub n (map_sub (λ r. get_or us r d) s))
  sub-back id k d s there e g =
      let at : ℕ → DefType = λ r. get_or us r d in
      let mentions : All (Contains distinct) (refs_sub (map_sub at s)) = are.mention d (map_sub at s) (contains_at distinct k d there) g in
      agree_sub id_of (λ r. f (n (at r))) s
      (refs-back d (refs_sub s) (recursion_from_All (λ r. r < length us) (refs_sub s) (inside gs listable true id s e))
      (recursion_from_All (Contains distinct) (map at (refs_sub s)) (subst (All (Contains distinct)) (refs_sub-map at s) mentions)))
      ∙ sym (ap (map_sub f) (map_sub-map n at s) ∙ map_sub-map f (λ r. n (at r)) s)

  option-back : (id k : ℕ) (d : DefType) (o : Option (Sub ℕ)) → slice_get distinct k ≡ Some d → declares gs id ≡ o → declared d ≡ option_map (map_sub (λ r. get_or us r d)) o
      → option_map (map_sub id_of) o ≡ option_map (map_sub f) (option_map (map_sub n) (declared d))
  option-back id k d None there e g = sym (ap (λ (x : Option (Sub DefType)). option_map (map_sub f) (option_map (map_sub n) x)) g)
  option-back id k d (Some s) there e g = ap Some (sub-back id k d s there e g) ∙ sym (ap (λ (x : Option (Sub DefType)). option_map (map_sub f) (option_map (map_sub n) x)) g)

  found-at : (k : ℕ) → declared_in same_number cs k ≡ (slice_get distinct k >>= λ d. option_map (map_sub n) (declared d))
  found-at k = found n 0 k k distinct (λ j d e. let i : n d ≡ j = are.number j d e in omega (arith, i)) each_declares (omega arith)

  module _ (D : Context UnpackedIndex) (is_list : D.declares ≡ ds) where
    declares-at : (k : ℕ) (o : Option ℕ) → slice_get ids k ≡ o → declared_in same_index D.declares (identity_or k o) ≡ option_map (map_sub f) (declared_in same_number cs k)
    declares-at k None e =
        (lists_are_listed gs listable D is_list).seen.nothing_declared (Module k) (λ m. refl)
        ∙ sym (ap (option_map (map_sub f)) (found-at k ∙ ap (λ (x : Option DefType). x >>= λ d. option_map (map_sub n) (declared d)) (past k e)))
    declares-at k (Some id) e =
        let t = type_there k id e in
        (lists_are_listed gs listable D is_list).seen.renames.declared id
        ∙ option-back id k t.0 (declares gs id) t.1 refl (types_declare_what_ids_declare true gs t.0 listable id t.0 t.2)
        ∙ sym (ap (option_map (map_sub f)) (found-at k ∙ ap (λ (x : Option DefType). x >>= λ d. option_map (map_sub n) (declared d)) t.1))

    declares-all : (k : ℕ) → declared_in same_index D.declares (f k) ≡ option_map (map_sub f) (declared_in same_number cs k)
    declares-all k = declares-at k (slice_get ids k) refl

    -- a supertype has a lower id than its type, and fewer of the module's ids below it
    abbrev height : ℕ → ℕ
    height k = number_or (slice_get ids k)

    abbrev rank : ℕ → ℕ
    rank k = count_below (height k) ids

    lower : (a y x z : ℕ) → slice_get ids a ≡ Some x → slice_get ids y ≡ Some z → z < x → (rank y < rank a) × (height y < height a)
    lower a y x z e g l =
        let u : height a ≡ x = ap number_or e in
        let v : height y ≡ z = ap number_or g in
        let m : count_below z ids < count_below x ids = count-more y z x ids g l in
        (omega (arith, ap (λ h. count_below h ids) u, ap (λ h. count_below h ids) v, m), omega (arith, u, v, l))

    list-above : (id : ℕ) → (declared_in same_index D.declares (id_of id) >>= supertype) ≡ option_map id_of (supertype_of (declares gs) id)
    list-above id = ap (λ (o : Option (Sub UnpackedIndex)). o >>= supertype) ((lists_are_listed gs listable D is_list).seen.renames.declared id) ∙ first-renamed (declares gs id)

    down-at : (a y : ℕ) (o : Option ℕ) → slice_get ids a ≡ o → (declared_in same_number cs a >>= supertype) ≡ Some y → (rank y < rank a) × (height y < height a)
    down-at a y None e g =
        let nothing : declared_in same_number cs a ≡ None = found-at a ∙ ap (λ (x : Option DefType). x >>= λ d. option_map (map_sub n) (declared d)) (past a e) in
        absurd (none-some y (sym (ap (λ (o : Option (Sub ℕ)). o >>= supertype) nothing) ∙ g))
    down-at a y (Some x) e g =
        let up : option_map id_of (supertype_of (declares gs) x) ≡ Some (f y)
        = sym (list-above x) ∙ ap (λ i. declared_in same_index D.declares (identity_or a i) >>= supertype) (sym e)
        ∙ above-renamed same_number same_index f cs D.declares kept declares-all a ∙ ap (option_map f) g in
        let z = named (supertype_of (declares gs) x) (f y) up in
        lower a y x z.0 e (id-apart y z.0 (slice_get ids y) z.2) (descends gs listable x z.0 z.1)

    down : (a y : ℕ) → (declared_in same_number cs a >>= supertype) ≡ Some y → (rank y < rank a) × (height y < height a)
    down a y g = down-at a y (slice_get ids a) refl g

    -- there are as many steps as types
    few_ranks : (a : ℕ) → rank a ≤ length cs
    few_ranks a = omega (arith, count-most (height a) ids, stand.as_many, length-items n distinct each_declares)

    few-at : (a : ℕ) (o : Option ℕ) → slice_get ids a ≡ o → number_or o ≤ length D.declares
    few-at a None e = omega arith
    few-at a (Some x) e =
        let t = type_there a x e in
        omega (arith, slice_get_within us x t.0 t.2, length-def_types true gs, length-subs gs 0, length-under id_of 0 (subs_by_ids 0 gs), ap length is_list)

    below-all : (a b : ℕ) → is_below same_index D.declares (length D.declares) (f a) (f b) ≡ is_below same_number cs (length cs) a b
    below-all a b =
        below-renamed same_number same_index f cs D.declares kept declares-all rank height down (length cs) (length D.declares) a b (few_ranks a) (few-at a (slice_get ids a) refl)

pub ids_rename_numbers : {A : Type 0} → IdsRenameNumbers A
ids_rename_numbers n distinct are gs listable one ids stand C is_module D is_list =
    let cs = items n distinct in
    let f : ℕ → UnpackedIndex = λ k. identity_at ids k in
    record {
      declared = λ a. declares-all n distinct are gs listable one ids stand D is_list a ∙ sym (ap (λ (xs : List (ℕ × Sub ℕ)). option_map (map_sub f) (declared_in same_number xs a)) is_module);
      below = λ a b. below-all n distinct are gs listable one ids stand D is_list a b ∙ sym (ap (λ (xs : List (ℕ × Sub ℕ)). is_below same_number xs (length xs) a b) is_module);
      same = kept n distinct are gs listable one ids stand;
    }
