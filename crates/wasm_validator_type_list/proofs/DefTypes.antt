-- The types that the ids of groups stand for, as groups come behind.
use Rattle.std.proofs.Common.{◌≡◌, refl, sym, ap, subst, ◌∙◌, ℕ, zero, suc, ◌+◌, ◌<◌, ◌≤◌, Bool, true, List, [], ◌∷◌, ◌++◌, map, length, slice_get, take, drop, Some, None, All, append_assoc, append-nil, arith, length-append}
use Rattle.std.specs.List.{AllByRecursion}
use Rattle.std.proofs.lemmas.List.{map_push, map-append, length-map, take-append-drop}
use Rattle.std.proofs.lemmas.List.Concat.{flat_map-append}
use Rattle.std.proofs.lemmas.List.Elements.{recursion_from_All}
use Rattle.std.proofs.lemmas.Option.{none-some, same_Some, slice_get_within}
use Rattle.wasm_readers_errors.specs.WasmSpec.Syntax.{Sub, map_sub}
use Rattle.wasm_readers_errors.specs.WasmSpec.References.{refs_sub}
use Rattle.wasm_readers_errors.specs.WasmSpec.Trees.{RecTree, DefType, close}
use Rattle.wasm_readers_errors.specs.WasmSpec.Closing.{positions}
use Rattle.wasm_readers_errors.specs.WasmSpec.TypeLists.{ListedUse, by_id, by_position, use_of_id, resolve_listed, listed_tree, with_listed, with_all_listed, types_of}
use Rattle.wasm_readers_errors.specs.WasmSpec.TypeLaws.{IsKnownUse, MentionsKnown}
use Rattle.wasm_readers_errors.proofs.WasmSpec.AcceptedSections.{length-positions}
use Rattle.wasm_readers_errors.proofs.WasmSpec.Agreement.{agree_sub}
use Rattle.wasm_readers_errors.proofs.WasmSpec.ListedGroups.{appended_listed_group}
use Rattle.wasm_readers_types.specs.declared.types.SubType.{SubType}
use Rattle.wasm_validator_type_ancestors.specs.WasmValidatorTypeGroups.Groups.{all_in, first_of}
use Rattle.wasm_validator_type_list.specs.GroupOrder.{IsListable, AreListable}
use Rattle.wasm_validator_type_list.specs.DefTypes.{listed_sub, listed_group, def_types, tree_behind}
use Rattle.wasm_validator_type_ancestors.proofs.WasmValidatorTypeGroups.Places.{get-left, get-append, first_of-suc}
use Rattle.wasm_validator_type_list.proofs.ListedSubTypes.{mentions_known}

-- places in a recursive type
abbrev pub place_in : RecTree → ℕ → DefType
place_in t i = record { tree = t; position = i }

pub get-positions : {X : Type 0} (t : RecTree) (i : ℕ) (xs : List X) (k : ℕ) → k < length xs → slice_get (positions t i xs) k ≡ Some (place_in t (i + k))
get-positions t i [] k h = absurd (omega (arith, h))
get-positions t i (x ∷ xs) zero h = let e : i ≡ i + 0 = omega arith in λ j. Some (place_in t (e j))
get-positions t i (x ∷ xs) (suc k) h = let e : i + 1 + k ≡ i + suc k = omega arith in get-positions t (i + 1) xs k (omega (arith, h)) ∙ (λ j. Some (place_in t (e j)))

pub from-positions : {X : Type 0} (t : RecTree) (xs : List X) (k : ℕ) (d : DefType) → slice_get (positions t 0 xs) k ≡ Some d → d ≡ place_in t k
from-positions t xs k d e =
    let l : k < length xs = omega (arith, slice_get_within (positions t 0 xs) k d e, length-positions t 0 xs) in
    let z : 0 + k ≡ k = omega arith in
    same_Some d (place_in t k) (sym e ∙ get-positions t 0 xs k l ∙ (λ j. Some (place_in t (z j))))

-- more types behind those that a group mentions leave its recursive type as it is
resolve-more : (ts more : List DefType) (u : ListedUse) → IsKnownUse ts u → resolve_listed ts u ≡ resolve_listed (ts ++ more) u
resolve-more ts more (by_position i) h = refl
resolve-more ts more (by_id k) h = ap use_of_id (sym (get-left ts more k h))

uses-more : (ts more : List DefType) (us : List ListedUse) → AllByRecursion (IsKnownUse ts) us → AllByRecursion (λ u. resolve_listed ts u ≡ resolve_listed (ts ++ more) u) us
uses-more ts more [] h = tt
uses-more ts more (u ∷ us) h = (resolve-more ts more u h.0, uses-more ts more us h.1)

subs-more : (ts more : List DefType) (g : List (Sub ListedUse)) → AllByRecursion (λ s. All (IsKnownUse ts) (refs_sub s)) g → map (map_sub (resolve_listed ts)) g ≡ map (map_sub (resolve_listed (ts ++ more))) g
subs-more ts more [] h = refl
subs-more ts more (s ∷ ss) h = λ i.
    agree_sub (resolve_listed ts) (resolve_listed (ts ++ more)) s (uses-more ts more (refs_sub s) (recursion_from_All (IsKnownUse ts) (refs_sub s) h.0)) i ∷ subs-more ts more ss h.1 i

tree-more : (ts more : List DefType) (g : List (Sub ListedUse)) → MentionsKnown ts g → listed_tree true ts g ≡ listed_tree true (ts ++ more) g
tree-more ts more g h = λ i. close None (subs-more ts more g (recursion_from_All (λ s. All (IsKnownUse ts) (refs_sub s)) g h.known) i)

with_all-append : (c : Bool) (gs hs : List (List (Sub ListedUse))) (ts : List DefType) → with_all_listed c ts (gs ++ hs) ≡ with_all_listed c (with_all_listed c ts gs) hs
with_all-append c [] hs ts = refl
with_all-append c (g ∷ gs) hs ts = with_all-append c gs hs (with_listed c ts g)

goes_on : (c : Bool) (gs : List (List (Sub ListedUse))) (ts : List DefType) → (more : List DefType) × (with_all_listed c ts gs ≡ ts ++ more)
goes_on c [] ts = ([], sym (append-nil ts))
goes_on c (g ∷ gs) ts =
    let here = positions (listed_tree c ts g) 0 g in
    let h = goes_on c gs (ts ++ here) in
    (here ++ h.0, h.1 ∙ append_assoc ts here h.0)

module _ {A : Type 0} where
  pub def_types-push : (c : Bool) (gs : List (List (SubType A))) (g : List (SubType A)) → def_types c (gs ++ g ∷ []) ≡ def_types c gs ++ positions (tree_behind c gs g) 0 (listed_group g)
  def_types-push c gs g = ap (types_of c) (map_push listed_group gs g) ∙ appended_listed_group c (map listed_group gs) (listed_group g)

  length-with_all : (c : Bool) (gs : List (List (SubType A))) (ts : List DefType) → length (with_all_listed c ts (map listed_group gs)) ≡ length ts + length (all_in gs)
  length-with_all c [] ts = omega arith
  length-with_all c (g ∷ gs) ts =
      let here = positions (listed_tree c ts (listed_group g)) 0 (listed_group g) in
      omega (arith, length-with_all c gs (ts ++ here), length-append ts here, length-positions (listed_tree c ts (listed_group g)) 0 (listed_group g), length-map g listed_sub, length-append g (all_in gs))

  pub length-def_types : (c : Bool) (gs : List (List (SubType A))) → length (def_types c gs) ≡ length (all_in gs)
  length-def_types c gs = omega (arith, length-with_all c gs [])

  -- the types of the first groups stand in front
  pub front : (c : Bool) (gs hs : List (List (SubType A))) → (more : List DefType) × (def_types c (gs ++ hs) ≡ def_types c gs ++ more)
  front c gs hs =
      let h = goes_on c (map listed_group hs) (def_types c gs) in
      (h.0, ap (types_of c) (map-append listed_group gs hs) ∙ with_all-append c (map listed_group gs) (map listed_group hs) [] ∙ h.1)

  -- a group is the same recursive type behind more groups
  pub tree_behind-more : (gs hs : List (List (SubType A))) (n : ℕ) (g : List (SubType A)) → n ≤ length (all_in gs) → IsListable n g → tree_behind true gs g ≡ tree_behind true (gs ++ hs) g
  tree_behind-more gs hs n g l h =
      let f = front true gs hs in
      tree-more (def_types true gs) f.0 (listed_group g) (mentions_known (def_types true gs) n g (omega (arith, l, length-def_types true gs)) h) ∙ ap (λ ts. listed_tree true ts (listed_group g)) (sym f.1)

  pub first_of-within : (gs : List (List (SubType A))) (k : ℕ) → first_of gs k ≤ length (all_in gs)
  first_of-within gs k =
      let e : all_in (take k gs ++ drop k gs) ≡ all_in (take k gs) ++ all_in (drop k gs) = flat_map-append (λ l. l) (take k gs) (drop k gs) in
      omega (arith, ap length e, ap (λ l. length (all_in l)) (take-append-drop k gs), length-append (all_in (take k gs)) (all_in (drop k gs)))

  -- the k-th group is the same recursive type behind those before it and behind all
  pub tree_at : (gs : List (List (SubType A))) (k : ℕ) (g : List (SubType A)) → IsListable (first_of gs k) g → tree_behind true (take k gs) g ≡ tree_behind true gs g
  tree_at gs k g h = tree_behind-more (take k gs) (drop k gs) (first_of gs k) g (omega arith) h ∙ ap (λ l. tree_behind true l g) (take-append-drop k gs)

  -- groups that may stand behind n types and one another
  abbrev ListableFrom : ℕ → List (List (SubType A)) → Type 0
  ListableFrom n gs = (k : ℕ) (g : List (SubType A)) → slice_get gs k ≡ Some g → IsListable (n + first_of gs k) g

  first_listable : (n : ℕ) (g : List (SubType A)) (gs : List (List (SubType A))) → ListableFrom n (g ∷ gs) → IsListable n g
  first_listable n g gs h = let e : n + 0 ≡ n = omega arith in subst (λ m. IsListable m g) e (h 0 g refl)

  others_listable : (n : ℕ) (g : List (SubType A)) (gs : List (List (SubType A))) → ListableFrom n (g ∷ gs) → ListableFrom (n + length g) gs
  others_listable n g gs h = λ k f e. let m : n + first_of (g ∷ gs) (suc k) ≡ n + length g + first_of gs k = omega (arith, first_of-suc g gs k) in subst (λ m. IsListable m f) m (h (suc k) f e)

  -- one of the groups is this recursive type behind ts
  pub record IsOfOne (ts : List DefType) (gs : List (List (SubType A))) (t : RecTree) : Type 0 where
    pub place : ℕ
    pub members : List (SubType A)
    pub there : slice_get gs place ≡ Some members
    pub tree : listed_tree true ts (listed_group members) ≡ t

  -- each type is one of ts or one of a group behind
  each_of_one : {P : Type 0} (gs : List (List (SubType A))) (n : ℕ) (ts : List DefType) → n ≡ length ts → ListableFrom n gs
      → (k : ℕ) (d : DefType) → slice_get (with_all_listed true ts (map listed_group gs)) k ≡ Some d
      → (slice_get ts k ≡ Some d → P) → (IsOfOne (with_all_listed true ts (map listed_group gs)) gs d.tree → P) → P
  each_of_one {P} [] n ts e h k d at f g = f at
  each_of_one {P} (x ∷ xs) n ts e h k d at f g =
      let t = listed_tree true ts (listed_group x) in
      let here = positions t 0 (listed_group x) in
      let more = goes_on true (map listed_group (x ∷ xs)) ts in
      let many : n + length x ≡ length (ts ++ here) = omega (arith, e, length-append ts here, length-positions t 0 (listed_group x), length-map x listed_sub) in
      let known = mentions_known ts n x (omega (arith, e)) (first_listable n x xs h) in
      let first : slice_get (ts ++ here) k ≡ Some d → P = λ b. get-append ts here k d b f
      (λ j _ c. g (record { place = 0; members = x; there = refl; tree = ap (λ us. listed_tree true us (listed_group x)) more.1 ∙ sym (tree-more ts more.0 (listed_group x) known) ∙ ap (λ (p : DefType). p.tree) (sym (from-positions t (listed_group x) j d c)) })) in
      each_of_one xs (n + length x) (ts ++ here) many (others_listable n x xs h) k d at first
      (λ o. g (record { place = suc o.place; members = o.members; there = o.there; tree = o.tree }))

  -- each type that an id stands for is one of a group's
  pub of_one : (gs : List (List (SubType A))) → AreListable gs → (k : ℕ) (d : DefType) → slice_get (def_types true gs) k ≡ Some d → IsOfOne (def_types true gs) gs d.tree
  of_one gs h k d e = each_of_one gs 0 [] refl (λ j g f. let m : first_of gs j ≡ 0 + first_of gs j = omega arith in subst (λ m. IsListable m g) m (h j g f)) k d e (λ f. absurd (none-some d f)) (λ o. o)
