-- Types of a list are told apart, as groups come behind.
use Rattle.std.proofs.Common.{◌≡◌, refl, sym, ap, subst, ◌∙◌, ℕ, ◌+◌, ◌<◌, Bool, true, false, List, [], ◌∷◌, ◌++◌, map, length, slice_get, Option, Some, None, arith}
use Rattle.std.proofs.lemmas.List.{length-map}
use Rattle.std.proofs.lemmas.Option.{none-some, same_Some, slice_get_within}
use Rattle.wasm_spec.specs.Syntax.{Sub, Rec, map_sub, map_rec}
use Rattle.wasm_spec.specs.Features.{Features, canonical}
use Rattle.wasm_spec.specs.Trees.{RecTree, DefType, close, members, start_of}
use Rattle.wasm_spec.specs.Closing.{is_closable, resolve, closed, start_unless, positions}
use Rattle.wasm_spec.specs.TypeLists.{ListedUse, resolve_listed, listed_tree, with_listed, with_all_listed}
use Rattle.wasm_spec.specs.TypeLaws.{HasNoRepetition}
use Rattle.wasm_spec.proofs.ReferenceNumbers.{members-close, start_of-close}
use Rattle.wasm_spec_rules.proofs.Tests.{guarded, then_some}
use Rattle.wasm_readers_types.specs.WasmReadersValues.declared.indices.UnpackedIndex.{UnpackedIndex}
use Rattle.wasm_validator_type_list.proofs.WasmValidatorTypeGroups.Places.{get-left, get-right, get-append}
use Rattle.wasm_validator_type_list.specs.DefTypes.{listed_group}
use Rattle.wasm_validator_type_list.proofs.DefTypes.{place_in, get-positions, from-positions}
use Rattle.wasm_validator_canonical.specs.ListPlaces.{place_of}
use Rattle.wasm_validator_canonical.specs.Groups.{types_at, placed, held_at, held, with_written}
use Rattle.wasm_validator_canonical.specs.Indices.{number_in}
use Rattle.wasm_validator_canonical.specs.Sections.{written, with_all_written}
use Rattle.wasm_validator_canonical.proofs.TypePlaces.{StandAt, found}
use Rattle.wasm_spec.proofs.AcceptedSections.{length-positions}
use Rattle.wasm_validator_canonical.proofs.Steps.{is_held}
use Rattle.wasm_validator_canonical.specs.DistinctTypes.{ArePlaced, AreWhole, AreApart, ApartTypesAreDistinct, ListedTypesAreApart, AddedTypesStayApart}

-- types in their places come once
placed_once : (us : List DefType) → ArePlaced us → HasNoRepetition us
placed_once us h = record {
  one_id = λ j k d there here.
      let a = h j d there in
      let b = h k d here in
      let same : a.0 ≡ b.0 = same_Some a.0 b.0 (sym a.1 ∙ b.1) in
      let left = a.2 in
      let right = b.2 in
      omega (arith, left, right, same);
}

pub apart_types_are_distinct : ApartTypesAreDistinct
apart_types_are_distinct true us h = h.0
apart_types_are_distinct false us h = placed_once us h

-- the types of a recursive type behind others
module _ {X : Type 0} (us : List DefType) (t : RecTree) (xs : List X) where
  abbrev here : List DefType
  here = positions t 0 xs

  placed_more : start_of t ≡ Some (length us) → ArePlaced us → ArePlaced (us ++ here)
  placed_more begins h k d e =
      get-append us here k d e (h k d)
      (λ j at there.
      let is : d ≡ place_in t j = from-positions t xs j d there in
      let starts : length us + d.position ≡ k = ap (λ (x : DefType). length us + x.position) is ∙ sym at in
      (length us, ap (λ (x : DefType). start_of x.tree) is ∙ begins, starts))

  stand_behind : (i : ℕ) → i < length xs → slice_get (us ++ here) (length us + i) ≡ Some (place_in t i)
  stand_behind i l = let z : 0 + i ≡ i = omega arith in get-right us here i ∙ get-positions t 0 xs i l ∙ (λ j. Some (place_in t (z j)))

  whole_more : length (members t) ≡ length xs → AreWhole us → AreWhole (us ++ here)
  whole_more many h k d e =
      get-append us here k d e
      (λ there.
      let w = h k d there in
      (w.0, λ i l. let at = w.1 i l in get-left us here (w.0 + i) (slice_get_within us (w.0 + i) (place_in d.tree i) at) ∙ at))
      (λ j at there.
      let is : d.tree ≡ t = ap (λ (x : DefType). x.tree) (from-positions t xs j d there) in (
        length us,
        λ i l.
            let m : length (members d.tree) ≡ length (members t) = ap (λ u. length (members u)) is in
            let within : i < length xs = omega (arith, l, m, many) in
            stand_behind i within ∙ (λ n. Some (place_in (sym is n) i)),
      ))

  once_more : ((j i : ℕ) (d : DefType) → slice_get us j ≡ Some d → slice_get here i ≡ Some d → ⊥) → HasNoRepetition us → HasNoRepetition (us ++ here)
  once_more never h = record {
    one_id = λ j k d there also.
        get-append us here j d there
        (λ a. get-append us here k d also (λ b. h.one_id j k d a b) (λ n at b. absurd (never j n d a b)))
        (λ m from a.
        get-append us here k d also (λ b. absurd (never k m d b a))
        (λ n at b.
        let same : m ≡ n = ap (λ (x : DefType). x.position) (sym (from-positions t xs m d a) ∙ from-positions t xs n d b) in
        omega (arith, from, at, same)));
  }

  pub stand_at : (first : ℕ) → ((i : ℕ) → i < length xs → slice_get us (first + i) ≡ Some (place_in t i)) → StandAt us first here
  stand_at first h i d e =
      let l : i < length xs = omega (arith, slice_get_within here i d e, length-positions t 0 xs) in
      h i l ∙ ap Some (sym (from-positions t xs i d e))

-- a whole recursive type that stands in the list is found there
pub is_found : {X : Type 0} (us : List DefType) (t : RecTree) (xs : List X) (first j : ℕ) (d : DefType) → HasNoRepetition us → slice_get (positions t 0 xs) j ≡ Some d → StandAt us first (positions t 0 xs) → place_of us (positions t 0 xs) ≡ Some first
is_found us t [] first j d once e stand = absurd (none-some d e)
is_found us t (x ∷ xs) first j d once e stand =
    let z : first ≡ first + 0 = omega arith in
    let at : slice_get us first ≡ Some (place_in t 0) = ap (slice_get us) z ∙ stand 0 (place_in t 0) refl in
    found us first (place_in t 0) (positions t 1 xs) (λ n g. once.one_id n first (place_in t 0) g at) stand

-- one that isn't found has no type in the list
pub not_in : {X : Type 0} (us : List DefType) (t : RecTree) (xs : List X) → HasNoRepetition us → AreWhole us → length (members t) ≡ length xs → place_of us (positions t 0 xs) ≡ None
    → (j i : ℕ) (d : DefType) → slice_get us j ≡ Some d → slice_get (positions t 0 xs) i ≡ Some d → ⊥
not_in us t xs once whole many absent j i d there here =
    let is : d.tree ≡ t = ap (λ (x : DefType). x.tree) (from-positions t xs i d here) in
    let w = whole j d there in
    let stand : StandAt us w.0 (positions t 0 xs) =
    stand_at us t xs w.0
    (λ n l.
    let m : length (members d.tree) ≡ length (members t) = ap (λ u. length (members u)) is in
    let within : n < length (members d.tree) = omega (arith, l, m, many) in
    w.1 n within ∙ (λ k. Some (place_in (is k) n)))
    in
    none-some w.0 (sym absent ∙ is_found us t xs w.0 i d once here stand)

-- what is held of a recursive type
held_at_apart : {X : Type 0} (us : List DefType) (ids : List ℕ) (t : RecTree) (xs : List X) → AreApart true us → length (members t) ≡ length xs
    → (o : Option ℕ) → place_of us (positions t 0 xs) ≡ o → AreApart true (held_at o us ids (positions t 0 xs)).0
held_at_apart us ids t xs h many (Some k) e = h
held_at_apart us ids t xs h many None e = (once_more us t xs (not_in us t xs h.0 h.1 many e) h.0, whole_more us t xs many h.1)

pub held_apart : {X : Type 0} (c : Bool) (us : List DefType) (ids : List ℕ) (t : RecTree) (xs : List X) → AreApart c us → length (members t) ≡ length xs → AreApart c (held c us ids (positions (placed c (length us) t) 0 xs)).0
held_apart true us ids t xs h many = held_at_apart us ids t xs h many (place_of us (positions t 0 xs)) refl
held_apart false us ids t xs h many = placed_more us (close (Some (length us)) (members t)) xs (start_of-close (Some (length us)) (members t)) h

module _ (F : Features) where
  pub closed_members : (ts : List DefType) (g : Rec ℕ) (t : RecTree) → closed F ts g ≡ Some t → length (members t) ≡ length g.types
  closed_members ts g t e =
      let subs = map (map_sub (resolve ts)) g.types in
      let begin = start_unless (canonical F) (length ts) in
      let c = guarded (is_closable F (length ts) g) (Some (close begin subs)) t e in
      ap (λ u. length (members u)) (sym (same_Some (close begin subs) t c.1)) ∙ ap length (members-close begin subs) ∙ length-map g.types (map_sub (resolve ts))

  written_apart : (us : List DefType) (ids : List ℕ) (g : Rec UnpackedIndex) (r : List DefType × List ℕ) → AreApart (canonical F) us → with_written F us ids g ≡ Some r → AreApart (canonical F) r.0
  written_apart us ids g r h e =
      let d = is_held F us ids g r e in
      let many : length (members d.tree) ≡ length g.types = closed_members (types_at us ids) (map_rec number_in g) d.tree d.closes ∙ length-map g.types (map_sub number_in) in
      subst (λ (p : List DefType × List ℕ). AreApart (canonical F) p.0) d.is (held_apart (canonical F) us ids d.tree g.types h many)

  all_written_apart : (gs : List (Rec ℕ)) (us : List DefType) (ids : List ℕ) (r : List DefType × List ℕ) → AreApart (canonical F) us → with_all_written F us ids gs ≡ Some r → AreApart (canonical F) r.0
  all_written_apart [] us ids r h e = subst (λ (p : List DefType × List ℕ). AreApart (canonical F) p.0) (same_Some (us, ids) r e) h
  all_written_apart (g ∷ gs) us ids r h e =
      let x = then_some (λ (p : List DefType × List ℕ). with_all_written F p.0 p.1 gs) (with_written F us ids (map_rec written g)) r e in
      all_written_apart gs x.0.0 x.0.1 r (written_apart us ids (map_rec written g) x.0 h x.1) x.2

pub added_types_stay_apart : AddedTypesStayApart
added_types_stay_apart F us gs held h e = all_written_apart F gs us [] held h e

-- the groups of a list
listed_whole : (c : Bool) (gs : List (List (Sub ListedUse))) (ts : List DefType) → AreWhole ts → AreWhole (with_all_listed c ts gs)
listed_whole c [] ts h = h
listed_whole c (g ∷ gs) ts h =
    let begin = start_unless c (length ts) in
    let subs = map (map_sub (resolve_listed ts)) g in
    let many : length (members (listed_tree c ts g)) ≡ length g = ap length (members-close begin subs) ∙ length-map g (map_sub (resolve_listed ts)) in
    listed_whole c gs (with_listed c ts g) (whole_more ts (listed_tree c ts g) g many h)

listed_placed : (gs : List (List (Sub ListedUse))) (ts : List DefType) → ArePlaced ts → ArePlaced (with_all_listed false ts gs)
listed_placed [] ts h = h
listed_placed (g ∷ gs) ts h =
    listed_placed gs (with_listed false ts g) (placed_more ts (listed_tree false ts g) g (start_of-close (Some (length ts)) (map (map_sub (resolve_listed ts)) g)) h)

module _ {A : Type 0} where
  pub listed_types_are_apart : ListedTypesAreApart A
  listed_types_are_apart true gs h = ((h refl).types, listed_whole true (map listed_group gs) [] (λ k d e. absurd (none-some d e)))
  listed_types_are_apart false gs h = listed_placed (map listed_group gs) [] (λ k d e. absurd (none-some d e))
