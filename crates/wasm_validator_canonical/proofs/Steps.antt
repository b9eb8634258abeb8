-- What one group of a type section adds, and when it does.
use Rattle.std.proofs.Common.{◌≡◌, refl, sym, ap, subst, ◌∙◌, ℕ, zero, suc, ◌+◌, ◌≤◌, Bool, true, false, true≢false, cond, leb, List, [], ◌∷◌, ◌++◌, map, length, Some, None, append_assoc, append-nil, arith, length-append}
use Rattle.std.specs.Option.{option_map, option_and_then}
use Rattle.std.specs.List.{list_all}
use Rattle.std.proofs.lemmas.Bool.{and_from, leb-true, le-leb}
use Rattle.std.proofs.lemmas.Option.{same_Some}
use Rattle.wasm_spec.specs.Syntax.{Sub, Rec, map_sub, map_rec}
use Rattle.wasm_spec.specs.References.{refs_sub}
use Rattle.wasm_spec.specs.Features.{Features, canonical}
use Rattle.wasm_spec.specs.Trees.{RecTree, DefType}
use Rattle.wasm_spec.specs.Closing.{closed, positions}
use Rattle.wasm_spec.proofs.SyntaxMaps.{map_rec-map, map_rec-same}
use Rattle.wasm_spec_rules.proofs.Tests.{map_some, guarded, then_some}
use Rattle.wasm_readers_types.specs.WasmReadersValues.declared.indices.UnpackedIndex.{UnpackedIndex}
use Rattle.wasm_readers_types.specs.WasmReadersValues.declared.indices.TheConstants.{MAX_IDS}
use Rattle.wasm_validator_type_list.specs.WasmValidatorTypeGroups.Elements.{numbers_from}
use Rattle.wasm_validator_canonical.specs.Groups.{types_at, placed, held, AreValid, with_an_id_each, with_written}
use Rattle.wasm_validator_canonical.specs.Indices.{is_written, is_written_sub, number_in}
use Rattle.wasm_validator_canonical.specs.Sections.{written, with_all_written}
use Rattle.wasm_validator_canonical.proofs.InternedTypes.{positions-map}
use Rattle.wasm_spec.proofs.AcceptedSections.{length-positions}
use Rattle.wasm_validator_canonical.proofs.KeptTypes.{AreBelow, length_held, held_front, new_ids, held_known}
use Rattle.wasm_validator_canonical.proofs.IdMeanings.{Stand, held_with, same_closed, closed_alone, placed_valid, placed_members, standing_valid}
use Rattle.wasm_spec.proofs.ClosedGroups.{refs_sub-map}

-- a group as it is written
indices_written : (us : List ℕ) → list_all is_written (map written us) ≡ true
indices_written [] = refl
indices_written (u ∷ us) = indices_written us

all_written : (ts : List (Sub ℕ)) → list_all is_written_sub (map (map_sub written) ts) ≡ true
all_written [] = refl
all_written (t ∷ ts) = and_from (is_written_sub (map_sub written t)) (list_all is_written_sub (map (map_sub written) ts)) (ap (list_all is_written) (refs_sub-map written t) ∙ indices_written (refs_sub t)) (all_written ts)

numbered : (g : Rec ℕ) → map_rec number_in (map_rec written g) ≡ g
numbered g = map_rec-map number_in written g ∙ map_rec-same g

module _ (F : Features) (us : List DefType) (ids : List ℕ) (ts : List DefType) (stand : Stand F us ids ts) (g : Rec ℕ) where
  -- what adding valid types of the group takes
  pub record Fits (t : RecTree) : Type 0 where
    pub room : length (held_with F us ids g t).0 ≤ MAX_IDS
    pub closes : closed F ts g ≡ Some t
    pub valid : AreValid F (positions t 0 g.types)

  same_step : with_written F us ids (map_rec written g) ≡ option_and_then with_an_id_each (option_map (held_with F us ids g) (closed F (types_at us ids) g))
  same_step = λ i.
      cond (all_written g.types i)
      (option_and_then with_an_id_each (option_map (λ t. held (canonical F) us ids (positions-map (map_sub written) (placed (canonical F) (length us) t) 0 g.types i)) (closed F (types_at us ids) (numbered g i))))
      None

  pub fits_added : (t : RecTree) → Fits t → with_written F us ids (map_rec written g) ≡ Some (held_with F us ids g t)
  fits_added t f =
      let room = f.room in
      same_step
      ∙ ap (λ o. option_and_then with_an_id_each (option_map (held_with F us ids g) o)) (same_closed F us ids ts stand g (closed_alone F ts g t f.closes t refl f.valid) ∙ f.closes)
      ∙ ap (λ b. cond b (Some (held_with F us ids g t)) None) (le-leb (length (held_with F us ids g t).0) MAX_IDS room)

  pub record AddedAs (q : List DefType × List ℕ) : Type 0 where
    pub tree : RecTree
    pub fits : Fits tree
    pub is : held_with F us ids g tree ≡ q

  pub added_fits : (q : List DefType × List ℕ) → with_written F us ids (map_rec written g) ≡ Some q → AreValid F q.0 → AddedAs q
  added_fits q e v =
      let a = then_some with_an_id_each (option_map (held_with F us ids g) (closed F (types_at us ids) g)) q (sym same_step ∙ e) in
      let c = guarded (leb (length a.0.0) MAX_IDS) (Some a.0) q a.2 in
      let d = map_some (held_with F us ids g) (closed F (types_at us ids) g) a.0 a.1 in
      let is : held_with F us ids g d.0 ≡ q = d.2 ∙ same_Some a.0 q c.1 in
      let t = d.0 in
      let u = placed (canonical F) (length us) t in
      let n = new_ids us ids (positions u 0 g.types) (canonical F) in
      let valid : AreValid F (positions u 0 g.types) = standing_valid F (held_with F us ids g t).0 n.start (positions u 0 g.types) n.stand (subst (λ (p : List DefType × List ℕ). AreValid F p.0) (sym is) v) in
      let alone = closed_alone F (types_at us ids) g t d.1 u (placed_members (canonical F) (length us) t) valid in
      record {
        tree = t;
        fits = record {
          room = subst (λ (p : List DefType × List ℕ). length p.0 ≤ MAX_IDS) (sym d.2) (leb-true (length a.0.0) MAX_IDS c.0);
          closes = sym (same_closed F us ids ts stand g alone) ∙ d.1;
          valid = placed_valid F (length us) t g.types valid;
        };
        is = is;
      }

-- what adding a group leaves of ids, whatever the group is
module _ (F : Features) (us : List DefType) (ids : List ℕ) (g : Rec UnpackedIndex) where
  pub record IsHeld (r : List DefType × List ℕ) : Type 0 where
    pub tree : RecTree
    pub closes : closed F (types_at us ids) (map_rec number_in g) ≡ Some tree
    pub is : held (canonical F) us ids (positions (placed (canonical F) (length us) tree) 0 g.types) ≡ r

  pub is_held : (r : List DefType × List ℕ) → with_written F us ids g ≡ Some r → IsHeld r
  is_held r e =
      let holds : RecTree → List DefType × List ℕ = λ t. held (canonical F) us ids (positions (placed (canonical F) (length us) t) 0 g.types) in
      let made = option_map holds (closed F (types_at us ids) (map_rec number_in g)) in
      let a = guarded (list_all is_written_sub g.types) (option_and_then with_an_id_each made) r e in
      let b = then_some with_an_id_each made r a.1 in
      let c = guarded (leb (length b.0.0) MAX_IDS) (Some b.0) r b.2 in
      let d = map_some holds (closed F (types_at us ids) (map_rec number_in g)) b.0 b.1 in
      record { tree = d.0; closes = d.1; is = d.2 ∙ same_Some b.0 r c.1 }

  -- the ids of a module's types become more by the group's
  pub written_length : (r : List DefType × List ℕ) → with_written F us ids g ≡ Some r → length r.1 ≡ length ids + length g.types
  written_length r e =
      let h = is_held r e in
      let ds = positions (placed (canonical F) (length us) h.tree) 0 g.types in
      ap (λ (p : List DefType × List ℕ). length p.1) (sym h.is) ∙ length_held us ids ds (canonical F) ∙ ap (λ n. length ids + n) (length-positions (placed (canonical F) (length us) h.tree) 0 g.types)

  -- Where equal types aren't one, the list becomes longer by the group's types, and these have the next ids.
  held_own : (c : Bool) (ds : List DefType) → c ≡ false → ((held c us ids ds).1 ≡ ids ++ numbers_from (length us) (length ds)) × (length (held c us ids ds).0 ≡ length us + length ds)
  held_own true ds e = absurd (true≢false e)
  held_own false ds e = (refl, length-append us ds)

  pub written_own : (r : List DefType × List ℕ) → canonical F ≡ false → with_written F us ids g ≡ Some r → (r.1 ≡ ids ++ numbers_from (length us) (length g.types)) × (length r.0 ≡ length us + length g.types)
  written_own r own e =
      let h = is_held r e in
      let t = placed (canonical F) (length us) h.tree in
      let o = held_own (canonical F) (positions t 0 g.types) own in
      let many = length-positions t 0 g.types in (
        ap (λ (p : List DefType × List ℕ). p.1) (sym h.is) ∙ o.0 ∙ ap (λ n. ids ++ numbers_from (length us) n) many,
        ap (λ (p : List DefType × List ℕ). length p.0) (sym h.is) ∙ o.1 ∙ ap (λ n. length us + n) many,
      )

  -- and all are ids of the list
  pub written_known : (r : List DefType × List ℕ) → with_written F us ids g ≡ Some r → AreBelow (length us) ids → AreBelow (length r.0) r.1
  written_known r e a =
      let h = is_held r e in
      subst (λ (p : List DefType × List ℕ). AreBelow (length p.0) p.1) h.is (held_known (canonical F) us ids (positions (placed (canonical F) (length us) h.tree) 0 g.types) a)

  -- the list only grows
  pub written_front : (r : List DefType × List ℕ) → with_written F us ids g ≡ Some r → (more : List DefType) × (r.0 ≡ us ++ more)
  written_front r e =
      let h = is_held r e in
      let f = held_front us ids (positions (placed (canonical F) (length us) h.tree) 0 g.types) (canonical F) in
      (f.0, ap (λ (p : List DefType × List ℕ). p.0) (sym h.is) ∙ f.1)

-- with all groups of a section too
pub all_written_front : (F : Features) (gs : List (Rec ℕ)) (us : List DefType) (ids : List ℕ) (r : List DefType × List ℕ) → with_all_written F us ids gs ≡ Some r → (more : List DefType) × (r.0 ≡ us ++ more)
all_written_front F [] us ids r e = ([], ap (λ (p : List DefType × List ℕ). p.0) (sym (same_Some (us, ids) r e)) ∙ sym (append-nil us))
all_written_front F (g ∷ gs) us ids r e =
    let x = then_some (λ (p : List DefType × List ℕ). with_all_written F p.0 p.1 gs) (with_written F us ids (map_rec written g)) r e in
    let here = written_front F us ids (map_rec written g) x.0 x.1 in
    let later = all_written_front F gs x.0.0 x.0.1 r x.2 in
    (here.0 ++ later.0, later.1 ∙ ap (λ xs. xs ++ later.0) here.1 ∙ append_assoc us here.0 later.0)

-- Where equal types aren't one, the types of a section have the next ids, and the list becomes longer by these types.
pub record HasOwnIds (us : List DefType) (ids : List ℕ) (r : List DefType × List ℕ) : Type 0 where
  pub count : ℕ
  pub are_ids : r.1 ≡ ids ++ numbers_from (length us) count
  pub grows : length r.0 ≡ length us + count

numbers-append : (start m n : ℕ) → numbers_from start m ++ numbers_from (start + m) n ≡ numbers_from start (m + n)
numbers-append start zero n = let z : start + 0 ≡ start = omega arith in let k : n ≡ 0 + n = omega arith in ap (λ s. numbers_from s n) z ∙ ap (numbers_from start) k
numbers-append start (suc m) n =
    let z : start + suc m ≡ start + 1 + m = omega arith in
    let k : suc (m + n) ≡ suc m + n = omega arith in
    ap (λ s. start ∷ (numbers_from (start + 1) m ++ numbers_from s n)) z ∙ ap (λ l. start ∷ l) (numbers-append (start + 1) m n) ∙ ap (numbers_from start) k

pub all_written_own : (F : Features) → canonical F ≡ false → (gs : List (Rec ℕ)) (us : List DefType) (ids : List ℕ) (r : List DefType × List ℕ) → with_all_written F us ids gs ≡ Some r → HasOwnIds us ids r
all_written_own F own [] us ids r e =
    let same : (us, ids) ≡ r = same_Some (us, ids) r e in
    record { count = 0; are_ids = ap (λ (p : List DefType × List ℕ). p.1) (sym same) ∙ sym (append-nil ids); grows = let h = ap (λ (p : List DefType × List ℕ). length p.0) same in omega (arith, h) }
all_written_own F own (g ∷ gs) us ids r e =
    let x = then_some (λ (p : List DefType × List ℕ). with_all_written F p.0 p.1 gs) (with_written F us ids (map_rec written g)) r e in
    let here = written_own F us ids (map_rec written g) x.0 own x.1 in
    let later = all_written_own F own gs x.0.0 x.0.1 r x.2 in
    let m = length (map (map_sub written) g.types) in
    let n = later.count in
    let longer = here.1 in
    let all = later.grows in
    record {
      count = m + n;
      are_ids = later.are_ids
          ∙ ap (λ l. l ++ numbers_from (length x.0.0) n) here.0
          ∙ ap (λ k. (ids ++ numbers_from (length us) m) ++ numbers_from k n) longer
          ∙ append_assoc ids (numbers_from (length us) m) (numbers_from (length us + m) n)
          ∙ ap (λ l. ids ++ l) (numbers-append (length us) m n);
      grows = omega (arith, longer, all);
    }
