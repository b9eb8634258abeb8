-- Groups of which nothing is added.
use Rattle.std.proofs.Common.{◌≡◌, refl, ap, ◌∙◌, ℕ, ◌+◌, ◌-◌, ◌<◌, ◌≤◌, Bool, true, false, cond, ◌&&◌, List, [], ◌∷◌, map, length, Option, None, arith, length-append}
use Rattle.std.specs.Option.{option_map, option_and_then}
use Rattle.std.specs.List.{list_all}
use Rattle.std.specs.Prelude.{Some}
use Rattle.std.proofs.lemmas.List.{length-map}
use Rattle.wasm_spec.specs.Syntax.{Rec, map_sub, map_rec}
use Rattle.wasm_spec.specs.Features.{Features, canonical}
use Rattle.wasm_spec.specs.Trees.{RecTree, DefType, close}
use Rattle.wasm_spec.specs.Closing.{is_closable, closed, positions, resolve, start_unless}
use Rattle.wasm_readers_types.specs.WasmReadersValues.declared.indices.UnpackedIndex.{UnpackedIndex}
use Rattle.wasm_readers_types.specs.WasmReadersValues.declared.indices.TheConstants.{MAX_IDS}
use Rattle.wasm_validator_canonical.specs.Groups.{closes, types_at, placed, held_at, held, with_an_id_each, with_written}
use Rattle.wasm_validator_canonical.specs.ListPlaces.{place_of}
use Rattle.wasm_validator_canonical.specs.Indices.{is_written_sub, number_in}
use Rattle.wasm_validator_canonical.specs.GroupFaults.{counted_first}
use Rattle.wasm_validator_canonical.proofs.TypePlaces.{StandAt, found_stand}
use Rattle.wasm_spec.proofs.AcceptedSections.{length-positions}
use Rattle.wasm_validator_canonical.proofs.KeptTypes.{last_one}
use Rattle.wasm_validator_canonical.proofs.WrittenGroups.{not_within}

-- more types than there are ids aren't in a list that has one for each
none_stand : (us ds : List DefType) (k : ℕ) → StandAt us k ds → length us ≤ MAX_IDS → MAX_IDS < length ds → ⊥
none_stand us [] k h room over = omega (arith, over)
none_stand us (d ∷ ds) k h room over = let l = last_one us ds k d h in omega (arith, l, room, over)

over_at : (us : List DefType) (ids : List ℕ) (ds : List DefType) (o : Option ℕ) → ((k : ℕ) → o ≡ Some k → StandAt us k ds) → length us ≤ MAX_IDS → MAX_IDS < length ds → MAX_IDS < length (held_at o us ids ds).0
over_at us ids ds (Some k) h room over = absurd (none_stand us ds k (h k refl) room over)
over_at us ids ds None h room over = let all = length-append us ds in omega (arith, all, over)

over_held : (c : Bool) (us : List DefType) (ids : List ℕ) (ds : List DefType) → length us ≤ MAX_IDS → MAX_IDS < counted_first c (length us) + length ds → MAX_IDS < length (held c us ids ds).0
over_held true us ids ds room over = over_at us ids ds (place_of us ds) (λ k e. found_stand us ds k e) room (omega (arith, over))
over_held false us ids ds room over = let all = length-append us ds in omega (arith, all, over)

nothing_within : {X : Type 0} (b : Bool) (o : Option X) (h : X → List DefType × List ℕ) → ((x : X) → with_an_id_each (h x) ≡ None) → cond b (option_and_then with_an_id_each (option_map h o)) None ≡ None
nothing_within true (Some x) h f = f x
nothing_within true None h f = refl
nothing_within false o h f = refl

-- so many types are counted, by those of the list
pub first_same : (b c : Bool) (m n counted : ℕ) → counted ≡ counted_first b m → b ≡ c → m ≡ n → counted ≡ counted_first c n
first_same b c m n counted e mode count = e ∙ (λ i. counted_first (mode i) (count i))

pub fits_first : (c : Bool) (held added total counted : ℕ) → counted ≡ counted_first c held → held ≤ MAX_IDS → added ≤ MAX_IDS - counted → total ≡ added → counted_first c held + total ≤ MAX_IDS
fits_first true held added total counted first room l e = omega (arith, first, room, l, e)
fits_first false held added total counted first room l e = omega (arith, first, room, l, e)

module _ (F : Features) (us : List DefType) (ids : List ℕ) (g : Rec UnpackedIndex) where
  abbrev written : Bool
  written = list_all is_written_sub g.types

  none_first : (b : Bool) (o : Option (List DefType × List ℕ)) → b ≡ false → cond b o None ≡ None
  none_first true o e = absurd cc
  none_first false o e = refl

  none_inside : (b : Bool) → cond {A = Option (List DefType × List ℕ)} b None None ≡ None
  none_inside true = refl
  none_inside false = refl

  -- there are no ids for its types
  pub none_full : length us ≤ MAX_IDS → MAX_IDS < counted_first (canonical F) (length us) + length g.types → with_written F us ids g ≡ None
  none_full room over =
      nothing_within written (closed F (types_at us ids) (map_rec number_in g)) (λ t. held (canonical F) us ids (positions (placed (canonical F) (length us) t) 0 g.types))
      (λ t.
      let ds = positions (placed (canonical F) (length us) t) 0 g.types in
      let many = length-positions (placed (canonical F) (length us) t) 0 g.types in
      let l : MAX_IDS < counted_first (canonical F) (length us) + length ds = omega (arith, many, over) in
      ap (λ b. cond b (Some (held (canonical F) us ids ds)) None) (not_within (length (held (canonical F) us ids ds).0) MAX_IDS (over_held (canonical F) us ids ds room l)))

  abbrev tree : RecTree
  tree = close (start_unless (canonical F) (length (types_at us ids))) (map (map_sub (resolve (types_at us ids))) (map (map_sub number_in) g.types))

  open_written : (a b : Bool) → (a && b) ≡ false → (a ≡ false → with_written F us ids g ≡ None) → (b ≡ false → with_written F us ids g ≡ None) → with_written F us ids g ≡ None
  open_written true b e f h = h e
  open_written false b e f h = f refl

  -- it doesn't close
  pub none_open : closes F (length ids) g ≡ false → with_written F us ids g ≡ None
  none_open e =
      open_written written (is_closable F (length ids) (map_rec number_in g)) e
      (none_first written _)
      (λ h.
      let n : is_closable F (length (types_at us ids)) (map_rec number_in g) ≡ false = ap (λ n. is_closable F n (map_rec number_in g)) (length-map ids _) ∙ h in
      ap (λ b. cond written (option_and_then with_an_id_each (option_map (λ t. held (canonical F) us ids (positions (placed (canonical F) (length us) t) 0 g.types)) (cond b (Some tree) None))) None) n
      ∙ none_inside written)
