-- Ids and the types that they stand for are ordered alike, and match alike.
use Rattle.std.proofs.Common.{◌≡◌, refl, sym, ap, subst, ◌∙◌, ℕ, zero, suc, ◌<◌, ◌≤◌, Bool, List, [], ◌∷◌, map, length, get_or, slice_get, Option, Some, None, All, arith}
use Rattle.std.specs.Option.{option_map, option_and_then}
use Rattle.std.proofs.lemmas.List.Elements.{All-head}
use Rattle.std.proofs.lemmas.Option.{none-some, same_Some, slice_get-get_or}
use Rattle.wasm_readers_errors.specs.WasmSpec.Syntax.{AbstractHeap, Heap, abstract_heap, concrete, exact, Val, i32, i64, f32, f64, v128, reference, Sub, map_heap, map_val, map_sub}
use Rattle.wasm_readers_errors.specs.WasmSpec.References.{refs_heap, refs_val}
use Rattle.wasm_readers_errors.specs.WasmSpec.Trees.{DefType, declared}
use Rattle.wasm_readers_errors.specs.WasmSpec.SupertypeOrder.{supertype, supertype_of, ancestor_at, IsAncestor}
use Rattle.wasm_readers_errors.specs.WasmSpec.Matching.{kind_of, bottom_of, MatchesAbstract, MatchesKind, IsAboveBottom, MatchesHeap, MatchesVal}
use Rattle.wasm_readers_errors.specs.WasmSpec.TypeLaws.{HasNoRepetition}
use Rattle.wasm_readers_types.specs.declared.types.SubType.{SubType}
use Rattle.wasm_validator_type_list.specs.GroupOrder.{AreListable}
use Rattle.wasm_validator_type_list.specs.DefTypes.{def_types}
use Rattle.wasm_validator_type_list.specs.DeclarationsById.{declares}
use Rattle.wasm_validator_type_list.specs.Laws.{IdsAreOrderedAsTypes, IdsMatchAsTypes}
use Rattle.wasm_validator_type_list.proofs.IdDeclarations.{descends}
use Rattle.wasm_validator_type_list.proofs.Chains.{not_behind}
use Rattle.wasm_validator_type_list.proofs.TypeMatches.{kind_kept, bottom_kept}
use Rattle.wasm_validator_type_list.proofs.IdsAndTypes.{types_declare_what_ids_declare}

-- the first supertype, renamed
first_renamed : {R S : Type 0} (f : R → S) (rs : List R) → slice_get (map f rs) 0 ≡ option_map f (slice_get rs 0)
first_renamed f [] = refl
first_renamed f (r ∷ rs) = refl

supertype_renamed : {R S : Type 0} (f : R → S) (o : Option (Sub R)) → option_and_then supertype (option_map (map_sub f) o) ≡ option_map f (option_and_then supertype o)
supertype_renamed f None = refl
supertype_renamed f (Some s) = first_renamed f s.supers

module _ {A : Type 0} (c : Bool) (gs : List (List (SubType A))) (other : DefType) (listable : AreListable gs) (one : HasNoRepetition (def_types c gs)) where
  abbrev ts : List DefType
  ts = def_types c gs

  abbrev D : ℕ → Option (Sub ℕ)
  D = declares gs

  abbrev at : ℕ → DefType
  at i = get_or ts i other

  abbrev IsHere : ℕ → Type 0
  IsHere i = i < length ts

  at_apart : (i j : ℕ) → IsHere i → IsHere j → at i ≡ at j → i ≡ j
  at_apart i j l m e = one.one_id i j (at i) (slice_get-get_or ts i other l) (slice_get-get_or ts j other m ∙ ap Some (sym e))

  declared_here : (i : ℕ) → IsHere i → declared (at i) ≡ option_map (map_sub at) (D i)
  declared_here i l = types_declare_what_ids_declare c gs other listable i (at i) (slice_get-get_or ts i other l)

  supertype_here : (i : ℕ) → IsHere i → supertype_of declared (at i) ≡ option_map at (supertype_of D i)
  supertype_here i l = ap (option_and_then supertype) (declared_here i l) ∙ supertype_renamed at (D i)

  next_here : (n : ℕ) (o : Option ℕ) → ((y : ℕ) → o ≡ Some y → IsHere y) → ((y : ℕ) → IsHere y → ancestor_at declared n (at y) ≡ option_map at (ancestor_at D n y))
      → option_and_then (ancestor_at declared n) (option_map at o) ≡ option_map at (option_and_then (ancestor_at D n) o)
  next_here n None h k = refl
  next_here n (Some y) h k = k y (h y refl)

  -- ancestors stand for ancestors
  ancestors_here : (n i : ℕ) → IsHere i → ancestor_at declared n (at i) ≡ option_map at (ancestor_at D n i)
  ancestors_here zero i l = refl
  ancestors_here (suc n) i l =
      ap (option_and_then (ancestor_at declared n)) (supertype_here i l)
      ∙ next_here n (supertype_of D i) (λ y e. let m : y < i = descends gs listable i y e in omega (arith, m, l)) (λ y m. ancestors_here n y m)

  from_renamed : (o : Option ℕ) (b : ℕ) → ((y : ℕ) → o ≡ Some y → IsHere y) → IsHere b → option_map at o ≡ Some (at b) → o ≡ Some b
  from_renamed None b h l e = absurd (none-some (at b) e)
  from_renamed (Some y) b h l e = ap Some (at_apart y b (h y refl) l (same_Some (at y) (at b) e))

  ordered_to : (a b : ℕ) → IsHere a → IsAncestor D a b → IsAncestor declared (at a) (at b)
  ordered_to a b l p = record { steps = p.steps; leads = ancestors_here p.steps a l ∙ ap (option_map at) p.leads }

  ordered_from : (a b : ℕ) → IsHere a → IsHere b → IsAncestor declared (at a) (at b) → IsAncestor D a b
  ordered_from a b l m p = record {
    steps = p.steps;
    leads = from_renamed (ancestor_at D p.steps a) b
        (λ y e. let k : y ≤ a = not_behind D (descends gs listable) p.steps a y e in omega (arith, k, l)) m (sym (ancestors_here p.steps a l) ∙ p.leads);
  }

  -- what is declared, and what it is renamed to
  found_here : {P : Type 0} (o : Option (Sub ℕ)) (t : Sub DefType) → option_map (map_sub at) o ≡ Some t → ((s : Sub ℕ) → o ≡ Some s → map_sub at s ≡ t → P) → P
  found_here None t e f = absurd (none-some t e)
  found_here (Some s) t e f = f s refl (same_Some (map_sub at s) t e)

  kind_to : (a : ℕ) (s : Bool) (k : AbstractHeap) → IsHere a → MatchesKind D a s k → MatchesKind declared (at a) s k
  kind_to a s k l m = record {
    sub = map_sub at m.sub;
    declares = declared_here a l ∙ ap (option_map (map_sub at)) m.declares;
    same_shared = m.same_shared;
    matches = subst (λ x. MatchesAbstract x k) (sym (kind_kept at m.sub.comp)) m.matches;
  }

  kind_from : (a : ℕ) (s : Bool) (k : AbstractHeap) → IsHere a → MatchesKind declared (at a) s k → MatchesKind D a s k
  kind_from a s k l m = found_here (D a) m.sub (sym (declared_here a l) ∙ m.declares) (λ x e f. record {
    sub = x;
    declares = e;
    same_shared = ap (λ (t : Sub DefType). t.shared) f ∙ m.same_shared;
    matches = subst (λ y. MatchesAbstract y k) (sym (ap (λ (t : Sub DefType). kind_of t.comp) f) ∙ kind_kept at x.comp) m.matches;
  })

  bottom_to : (a : ℕ) (s : Bool) (k : AbstractHeap) → IsHere a → IsAboveBottom D a s k → IsAboveBottom declared (at a) s k
  bottom_to a s k l m = record {
    sub = map_sub at m.sub;
    declares = declared_here a l ∙ ap (option_map (map_sub at)) m.declares;
    same_shared = m.same_shared;
    is_bottom = bottom_kept at m.sub.comp ∙ m.is_bottom;
  }

  bottom_from : (a : ℕ) (s : Bool) (k : AbstractHeap) → IsHere a → IsAboveBottom declared (at a) s k → IsAboveBottom D a s k
  bottom_from a s k l m = found_here (D a) m.sub (sym (declared_here a l) ∙ m.declares) (λ x e f. record {
    sub = x;
    declares = e;
    same_shared = ap (λ (t : Sub DefType). t.shared) f ∙ m.same_shared;
    is_bottom = sym (bottom_kept at x.comp) ∙ ap (λ (t : Sub DefType). bottom_of t.comp) f ∙ m.is_bottom;
  })

  -- heap types
  abbrev AreHere : List ℕ → Type 0
  AreHere ids = All IsHere ids

  only_here : (i : ℕ) → AreHere (i ∷ []) → IsHere i
  only_here i h = All-head IsHere i [] h

  heaps_to : (h k : Heap ℕ) → AreHere (refs_heap h) → AreHere (refs_heap k) → MatchesHeap D h k → MatchesHeap declared (map_heap at h) (map_heap at k)
  heaps_to (abstract_heap s i) (abstract_heap t j) u v m = m
  heaps_to (abstract_heap s i) (concrete b) u v m = bottom_to b s i (only_here b v) m
  heaps_to (abstract_heap s i) (exact b) u v m = bottom_to b s i (only_here b v) m
  heaps_to (concrete a) (abstract_heap t j) u v m = kind_to a t j (only_here a u) m
  heaps_to (concrete a) (concrete b) u v m = ordered_to a b (only_here a u) m
  heaps_to (concrete a) (exact b) u v m = m
  heaps_to (exact a) (abstract_heap t j) u v m = kind_to a t j (only_here a u) m
  heaps_to (exact a) (concrete b) u v m = ordered_to a b (only_here a u) m
  heaps_to (exact a) (exact b) u v m = ap at m

  heaps_from : (h k : Heap ℕ) → AreHere (refs_heap h) → AreHere (refs_heap k) → MatchesHeap declared (map_heap at h) (map_heap at k) → MatchesHeap D h k
  heaps_from (abstract_heap s i) (abstract_heap t j) u v m = m
  heaps_from (abstract_heap s i) (concrete b) u v m = bottom_from b s i (only_here b v) m
  heaps_from (abstract_heap s i) (exact b) u v m = bottom_from b s i (only_here b v) m
  heaps_from (concrete a) (abstract_heap t j) u v m = kind_from a t j (only_here a u) m
  heaps_from (concrete a) (concrete b) u v m = ordered_from a b (only_here a u) (only_here b v) m
  heaps_from (concrete a) (exact b) u v m = m
  heaps_from (exact a) (abstract_heap t j) u v m = kind_from a t j (only_here a u) m
  heaps_from (exact a) (concrete b) u v m = ordered_from a b (only_here a u) (only_here b v) m
  heaps_from (exact a) (exact b) u v m = at_apart a b (only_here a u) (only_here b v) m

  -- value types
  vals_to : (v w : Val ℕ) → AreHere (refs_val v) → AreHere (refs_val w) → MatchesVal D v w → MatchesVal declared (map_val at v) (map_val at w)
  vals_to (reference r) (reference s) x y m = (m.0, heaps_to r.heap s.heap x y m.1)
  vals_to i32 i32 x y m = m
  vals_to i64 i64 x y m = m
  vals_to f32 f32 x y m = m
  vals_to f64 f64 x y m = m
  vals_to v128 v128 x y m = m
  vals_to v w x y m = absurd m

  vals_from : (v w : Val ℕ) → AreHere (refs_val v) → AreHere (refs_val w) → MatchesVal declared (map_val at v) (map_val at w) → MatchesVal D v w
  vals_from (reference r) (reference s) x y m = (m.0, heaps_from r.heap s.heap x y m.1)
  vals_from i32 i32 x y m = m
  vals_from i64 i64 x y m = m
  vals_from f32 f32 x y m = m
  vals_from f64 f64 x y m = m
  vals_from v128 v128 x y m = m
  vals_from v w x y m = absurd m

pub ids_are_ordered_as_types : {A : Type 0} → IdsAreOrderedAsTypes A
ids_are_ordered_as_types c gs other h one a b l m = (ordered_to c gs other h one a b l, ordered_from c gs other h one a b l m)

pub ids_match_as_types : {A : Type 0} → IdsMatchAsTypes A
ids_match_as_types c gs other h one v w x y = (vals_to c gs other h one v w x y, vals_from c gs other h one v w x y)
