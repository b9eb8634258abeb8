-- No two ids of a list stand for one type: where equal types are one, since equal groups are kept once, and where they
-- aren't, since each recursive type has its place.
use Rattle.std.proofs.Common.{◌≡◌, refl, sym, subst, ◌∙◌, ℕ, ◌+◌, Bool, true, false, List, [], ◌∷◌, map, length, slice_get, Some, arith}
use Rattle.std.proofs.lemmas.Option.{none-some, same_Some}
use Rattle.wasm_readers_errors.specs.WasmSpec.Syntax.{Sub, map_sub}
use Rattle.wasm_readers_errors.specs.WasmSpec.Trees.{DefType, start_of}
use Rattle.wasm_readers_errors.specs.WasmSpec.Closing.{positions}
use Rattle.wasm_readers_errors.specs.WasmSpec.TypeLists.{ListedUse, resolve_listed, listed_tree, with_listed, with_all_listed}
use Rattle.wasm_readers_errors.specs.WasmSpec.TypeLaws.{HasNoRepetition}
use Rattle.wasm_readers_errors.proofs.WasmSpec.ReferenceNumbers.{start_of-close}
use Rattle.wasm_readers_types.specs.declared.types.SubType.{SubType}
use Rattle.wasm_validator_type_list.specs.declared.type_list.TypeList.TheInside.{Inside}
use Rattle.wasm_validator_type_list.specs.ListViews.{Listing}
use Rattle.wasm_validator_type_list.specs.DefTypes.{listed_group, def_types}
use Rattle.wasm_validator_type_list.specs.GroupInterning.{AreOnce}
use Rattle.wasm_validator_type_list.specs.Laws.{TypesHaveTheirPlaces}
use Rattle.wasm_validator_type_list.specs.ListSoundness.{shown, IsSound}
use Rattle.wasm_validator_type_ancestors.proofs.WasmValidatorTypeGroups.Places.{get-append}
use Rattle.wasm_validator_type_list.proofs.DefTypes.{from-positions}

-- the type's place is where its recursive type begins, and its position behind
record IsPlaced (place : ℕ) (d : DefType) : Type 0 where
  start : ℕ
  begins : start_of d.tree ≡ Some start
  behind : place ≡ start + d.position

abbrev ArePlaced : List DefType → Type 0
ArePlaced ts = (k : ℕ) (d : DefType) → slice_get ts k ≡ Some d → IsPlaced k d

one_placed : (ts : List DefType) (g : List (Sub ListedUse)) → ArePlaced ts → ArePlaced (with_listed false ts g)
one_placed ts g h k d e =
    let t = listed_tree false ts g in
    get-append ts (positions t 0 g) k d e (h k d)
    (λ j at there.
    subst (IsPlaced k) (sym (from-positions t g j d there)) (record { start = length ts; begins = start_of-close (Some (length ts)) (map (map_sub (resolve_listed ts)) g); behind = at }))

all_placed : (gs : List (List (Sub ListedUse))) (ts : List DefType) → ArePlaced ts → ArePlaced (with_all_listed false ts gs)
all_placed [] ts h = h
all_placed (g ∷ gs) ts h = all_placed gs (with_listed false ts g) (one_placed ts g h)

placed_once : (ts : List DefType) → ArePlaced ts → HasNoRepetition ts
placed_once ts h = record {
  one_id = λ j k d there here.
      let a = h j d there in
      let b = h k d here in
      let same : a.start ≡ b.start = same_Some a.start b.start (sym a.begins ∙ b.begins) in
      let left = a.behind in
      let right = b.behind in
      omega (arith, left, right, same);
}

module _ {A : Type 0} where
  pub types_have_their_places : TypesHaveTheirPlaces A
  types_have_their_places gs = placed_once (def_types false gs) (all_placed (map listed_group gs) [] (λ k d e. absurd (none-some d e)))

  pub once_in : (c : Bool) (gs : List (List (SubType A))) → (c ≡ true → AreOnce gs) → HasNoRepetition (def_types c gs)
  once_in true gs h = (h refl).types
  once_in false gs h = types_have_their_places gs

  pub apart_in : (a : Inside A) (l : Listing A) → shown a ≡ l → IsSound a → HasNoRepetition (def_types l.is_canonical l.groups)
  apart_in a l e h = subst (λ (m : Listing A). HasNoRepetition (def_types m.is_canonical m.groups)) e (once_in a.is_canonical a.groups h.once)
