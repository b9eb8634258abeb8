-- The groups of a type section, one after another: they are added exactly where they are valid and there are ids for them.
use Rattle.std.proofs.Common.{◌≡◌, refl, sym, ap, subst, ◌∙◌, ◌⊎◌, inl, inr, ℕ, ◌+◌, ◌≤◌, List, [], ◌∷◌, ◌++◌, length, slice_get, Some, arith, append_assoc, append-nil, length-append}
use Rattle.std.specs.Option.{option_map, option_and_then}
use Rattle.std.specs.List.{All}
use Rattle.std.proofs.lemmas.List.Elements.{All-nil, All-append}
use Rattle.std.proofs.lemmas.Option.{same_Some, slice_get_within}
use Rattle.wasm_spec.specs.Syntax.{Rec, map_rec}
use Rattle.wasm_spec.specs.Features.{Features, canonical}
use Rattle.wasm_spec.specs.Trees.{RecTree, DefType, declared}
use Rattle.wasm_spec.specs.Closing.{closed, positions, with_group, with_groups}
use Rattle.wasm_spec.specs.GroupRules.{IsValidType}
use Rattle.wasm_spec.proofs.Closing.{slice_get-append_left}
use Rattle.wasm_spec_rules.proofs.Tests.{map_some, then_some}
use Rattle.wasm_readers_types.specs.WasmReadersValues.declared.indices.TheConstants.{MAX_IDS}
use Rattle.wasm_validator_type_list.specs.WasmValidatorTypeGroups.Elements.{numbers_from}
use Rattle.wasm_validator_type_list.proofs.WasmValidatorTypeGroups.RemainingNumbers.{length_numbers}
use Rattle.wasm_validator_type_list.proofs.GroupMatching.{all-left, all-right}
use Rattle.wasm_validator_canonical.specs.Groups.{placed, AreValid, with_written}
use Rattle.wasm_validator_canonical.specs.Sections.{written, with_all_written, StandsFor, AddedSectionsAreValid, ValidSectionsAreAdded, OneIdForOneType}
use Rattle.wasm_validator_canonical.specs.DistinctTypes.{AreApart}
use Rattle.wasm_validator_canonical.specs.TypeTotals.{with_types, AreWith, AddedTypesAreCounted, CountedSectionsAreAdded}
use Rattle.wasm_validator_canonical.proofs.DistinctLists.{held_apart, closed_members}
use Rattle.wasm_validator_canonical.proofs.TypeCounts.{held_counted, with_append, with_none, with_split, with_grows}
use Rattle.wasm_spec.proofs.AcceptedSections.{length-positions}
use Rattle.wasm_validator_canonical.proofs.KeptTypes.{held_front, held_at_most, all_held}
use Rattle.wasm_validator_canonical.proofs.IdMeanings.{Stand, held_with, held_stand, valid_placed, zip_length}
use Rattle.wasm_validator_canonical.proofs.Steps.{Fits, fits_added, added_fits, all_written_front, all_written_own}

same_behind : {X : Type 0} (xs ys zs : List X) → xs ++ ys ≡ xs ++ zs → ys ≡ zs
same_behind [] ys zs e = e
same_behind (x ∷ xs) ys zs e = let h : xs ++ ys ≡ xs ++ zs = cc in same_behind xs ys zs h

-- groups come behind the types so far
groups_go_on : (F : Features) (gs : List (Rec ℕ)) (ts us : List DefType) → with_groups F ts gs ≡ Some us → (more : List DefType) × (us ≡ ts ++ more)
groups_go_on F [] ts us e = ([], sym (same_Some ts us e) ∙ sym (append-nil ts))
groups_go_on F (g ∷ gs) ts us e =
    let a = then_some (λ xs. with_groups F xs gs) (with_group F ts g) us e in
    let b = map_some (λ t. ts ++ positions t 0 g.types) (closed F ts g) a.0 a.1 in
    let c = groups_go_on F gs a.0 us a.2 in
    (positions b.0 0 g.types ++ c.0, c.1 ∙ ap (λ xs. xs ++ c.0) (sym b.2) ∙ append_assoc ts (positions b.0 0 g.types) c.0)

module _ (F : Features) where
  -- what there is to know of groups that are added behind types of the module, where the types of the list are valid
  record GroupsHeld (us ts : List DefType) (gs : List (Rec ℕ)) (q : List DefType × List ℕ) : Type 0 where
    space : List DefType
    gives : with_groups F ts gs ≡ Some (ts ++ space)
    valid : AreValid F space
    stand : Stand F q.0 q.1 (ts ++ space)
    more : List DefType
    front : q.0 ≡ us ++ more
    counted : AreApart (canonical F) us → AreWith (canonical F) q.0 us space

  nothing_held : (us : List DefType) (ids : List ℕ) (ts : List DefType) → Stand F us ids ts → GroupsHeld us ts [] (us, ids)
  nothing_held us ids ts a = record {
    space = [];
    gives = ap Some (sym (append-nil ts));
    valid = All-nil (IsValidType F declared);
    stand = subst (Stand F us ids) (sym (append-nil ts)) a;
    more = [];
    front = sym (append-nil us);
    counted = λ _. with_none (canonical F) us;
  }

  one_held : (us : List DefType) (ids : List ℕ) (ts : List DefType) (a : Stand F us ids ts) (g : Rec ℕ) (gs : List (Rec ℕ)) (t : RecTree) (q : List DefType × List ℕ)
      → Fits F us ids ts a g t → GroupsHeld (held_with F us ids g t).0 (ts ++ positions t 0 g.types) gs q → GroupsHeld us ts (g ∷ gs) q
  one_held us ids ts a g gs t q f r =
      let here = positions t 0 g.types in
      let h = held_front us ids (positions (placed (canonical F) (length us) t) 0 g.types) (canonical F) in
      record {
        space = here ++ r.space;
        gives = ap (λ o. option_and_then (λ xs. with_groups F xs gs) (option_map (λ u. ts ++ positions u 0 g.types) o)) f.closes ∙ r.gives ∙ ap Some (append_assoc ts here r.space);
        valid = All-append (IsValidType F declared) here r.space f.valid r.valid;
        stand = subst (Stand F q.0 q.1) (append_assoc ts here r.space) r.stand;
        more = h.0 ++ r.more;
        front = r.front ∙ ap (λ xs. xs ++ r.more) h.1 ∙ append_assoc us h.0 r.more;
        counted = λ apart.
            let many = closed_members F ts g t f.closes in
            with_append (canonical F) (held_with F us ids g t).0 q.0 us here r.space (held_counted (canonical F) us ids t g.types apart many) (r.counted (held_apart (canonical F) us ids t g.types apart many));
      }

  groups_held : (gs : List (Rec ℕ)) (us : List DefType) (ids : List ℕ) (ts : List DefType) → Stand F us ids ts
      → (q : List DefType × List ℕ) → with_all_written F us ids gs ≡ Some q → AreValid F q.0 → GroupsHeld us ts gs q
  groups_held [] us ids ts a q e v = subst (GroupsHeld us ts []) (same_Some (us, ids) q e) (nothing_held us ids ts a)
  groups_held (g ∷ gs) us ids ts a q e v =
      let x = then_some (λ (p : List DefType × List ℕ). with_all_written F p.0 p.1 gs) (with_written F us ids (map_rec written g)) q e in
      let later = all_written_front F gs x.0.0 x.0.1 q x.2 in
      let y = added_fits F us ids ts a g x.0 x.1 (all-left (IsValidType F declared) x.0.0 later.0 (subst (AreValid F) later.1 v)) in
      let t = y.tree in
      let next = held_with F us ids g t in
      one_held us ids ts a g gs t q y.fits
      (groups_held gs next.0 next.1 (ts ++ positions t 0 g.types) (held_stand F us ids ts g t a) q (ap (λ (p : List DefType × List ℕ). with_all_written F p.0 p.1 gs) y.is ∙ x.2) v)

  -- and the other way round
  record GroupsAdded (us : List DefType) (ids : List ℕ) (gs : List (Rec ℕ)) : Type 0 where
    end : List DefType × List ℕ
    run : with_all_written F us ids gs ≡ Some end
    valid : AreValid F end.0

  -- there are ids for these types with those of the list, which may have some of them, or for all of both
  abbrev Room : List DefType → List DefType → Type 0
  Room us space = (AreApart (canonical F) us × (length (with_types (canonical F) us space) ≤ MAX_IDS)) ⊎ (length us + length space ≤ MAX_IDS)

  room_behind : (us : List DefType) (ids : List ℕ) (ts : List DefType) (g : Rec ℕ) (t : RecTree) (rest : List DefType) → closed F ts g ≡ Some t → Room us (positions t 0 g.types ++ rest)
      → (length (held_with F us ids g t).0 ≤ MAX_IDS) × Room (held_with F us ids g t).0 rest
  room_behind us ids ts g t rest closes (inl a) =
      let c = canonical F in
      let next = (held_with F us ids g t).0 in
      let many = closed_members F ts g t closes in
      let split = with_split c next us (positions t 0 g.types) rest (held_counted c us ids t g.types a.0 many) in
      let more = with_grows c next rest in
      let room = a.1 in
      let room_after : length (with_types c next rest) ≤ MAX_IDS = omega (arith, split, room) in
      (omega (arith, more, room_after), inl (held_apart c us ids t g.types a.0 many, room_after))
  room_behind us ids ts g t rest closes (inr room) =
      let listed = positions (placed (canonical F) (length us) t) 0 g.types in
      let h = held_at_most us ids listed (canonical F) in
      let p = length-positions (placed (canonical F) (length us) t) 0 g.types in
      let here = length-positions t 0 g.types in
      let both = length-append (positions t 0 g.types) rest in
      (omega (arith, h, p, here, both, room), inr (omega (arith, h, p, here, both, room)))

  then_added : (us : List DefType) (ids : List ℕ) (g : Rec ℕ) (gs : List (Rec ℕ)) (next q : List DefType × List ℕ)
      → with_written F us ids (map_rec written g) ≡ Some next → with_all_written F next.0 next.1 gs ≡ Some q → with_all_written F us ids (g ∷ gs) ≡ Some q
  then_added us ids g gs next q e f = ap (option_and_then (λ (p : List DefType × List ℕ). with_all_written F p.0 p.1 gs)) e ∙ f

  groups_added : (gs : List (Rec ℕ)) (us : List DefType) (ids : List ℕ) (ts space : List DefType) → Stand F us ids ts → AreValid F us
      → with_groups F ts gs ≡ Some (ts ++ space) → AreValid F space → Room us space → GroupsAdded us ids gs
  groups_added [] us ids ts space a before e v room = record { end = (us, ids); run = refl; valid = before }
  groups_added (g ∷ gs) us ids ts space a before e v room =
      let V = IsValidType F declared in
      let x = then_some (λ xs. with_groups F xs gs) (with_group F ts g) (ts ++ space) e in
      let y = map_some (λ t. ts ++ positions t 0 g.types) (closed F ts g) x.0 x.1 in
      let t = y.0 in
      let here = positions t 0 g.types in
      let rest : with_groups F (ts ++ here) gs ≡ Some (ts ++ space) = ap (λ xs. with_groups F xs gs) y.2 ∙ x.2 in
      let z = groups_go_on F gs (ts ++ here) (ts ++ space) rest in
      let split : space ≡ here ++ z.0 = same_behind ts space (here ++ z.0) (z.1 ∙ append_assoc ts here z.0) in
      let valid = subst (All V) split v in
      let after_room = room_behind us ids ts g t z.0 y.1 (subst (Room us) split room) in
      let now = all-left V here z.0 valid in
      let fits : Fits F us ids ts a g t = record { room = after_room.0; closes = y.1; valid = now } in
      let next = held_with F us ids g t in
      let listed = positions (placed (canonical F) (length us) t) 0 g.types in
      let after = all_held us ids listed V (canonical F) before (valid_placed F (length us) t g.types now) in
      let later = groups_added gs next.0 next.1 (ts ++ here) z.0 (held_stand F us ids ts g t a) after (rest ∙ ap Some z.1) (all-right V here z.0 valid) after_room.1 in
      record { end = later.end; run = then_added us ids g gs next later.end (fits_added F us ids ts a g t fits) later.run; valid = later.valid }

pub added_sections_are_valid : AddedSectionsAreValid
added_sections_are_valid F us gs held e v =
    let r = groups_held F gs us [] [] tt held e v in
    let many : length held.1 ≡ length r.space = zip_length (StandsFor (canonical F) held.0) held.1 r.space r.stand in
    record {
      section = record { types = r.space; gives = r.gives; valid = r.valid };
      stand = r.stand;
      more = r.more;
      front = r.front;
      own_ids = λ own.
          let o = all_written_own F own gs us [] held e in
          o.are_ids ∙ ap (numbers_from (length us)) (sym (length_numbers (length us) o.count) ∙ sym (ap length o.are_ids) ∙ many);
      grows = λ own.
          let o = all_written_own F own gs us [] held e in
          o.grows ∙ ap (λ n. length us + n) (sym (length_numbers (length us) o.count) ∙ sym (ap length o.are_ids) ∙ many);
    }

pub valid_sections_are_added : ValidSectionsAreAdded
valid_sections_are_added F us gs before v room = let r = groups_added F gs us [] [] v.types tt before v.gives v.valid (inr room) in record { held = r.end; added = r.run; valid = r.valid }

-- where the list may have some of them
pub counted_sections_are_added : CountedSectionsAreAdded
counted_sections_are_added F us gs apart before v room = let r = groups_added F gs us [] [] v.types tt before v.gives v.valid (inl (apart, room)) in record { held = r.end; added = r.run; valid = r.valid }

pub added_types_are_counted : AddedTypesAreCounted
added_types_are_counted F us gs held apart e valid v =
    let r = groups_held F gs us [] [] tt held e valid in
    subst (AreWith (canonical F) held.0 us) (same_Some r.space v.types (sym r.gives ∙ v.gives)) (r.counted apart)

-- ids and the types that they stand for
pub one_id_for_one_type : OneIdForOneType
one_id_for_one_type us more once i j d e a b =
    let there : slice_get (us ++ more) i ≡ Some d = slice_get-append_left us more i (slice_get_within us i a.listed a.is_there) ∙ a.is_there ∙ ap Some (a.same refl) in
    let here : slice_get (us ++ more) j ≡ Some e = b.is_there ∙ ap Some (b.same refl) in
    (λ h. same_Some d e (sym there ∙ ap (slice_get (us ++ more)) h ∙ here), λ h. once.one_id i j e (there ∙ ap Some h) here)
