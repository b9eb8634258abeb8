-- The counts that are compared before the end don't change behind that place.
use Rattle.std.proofs.Common.{◌≡◌, ◌<◌, ◌≤◌, ℕ, Bool, true, false, cond, eqb, ltb, List, [], ◌∷◌, ◌++◌, map, Some, refl, sym, ap, subst, ◌∙◌, inl, inr, arith}
use Rattle.std.specs.Option.{option_map}
use Rattle.std.specs.Prelude.{◌||◌, ◌&&◌}
use Rattle.std.proofs.lemmas.Bool.{eqb-true, ltb-true}
use Rattle.wasm_spec.specs.Values.{u32_at, name_at}
use Rattle.wasm_spec.specs.Framing.{Piece, Custom, Counted, Start, DataCount, CodeEntry, Unknown, End, place, number_of, piece_of, code_pieces, pieces_of, all_pieces, Tally, tally, tally_all, is_none_or, agrees}
use Rattle.wasm_parser.specs.Machine.{may_follow, last_place}
use Rattle.wasm_parser.proofs.Order.{Follow}
use Rattle.wasm_parser.specs.Machine.{settled}
use Rattle.wasm_parser.proofs.Steps.{truth, then_some, map_some, chosen, some_is}

pub tally_end : (t : Tally) (ps : List Piece) → tally_all t (ps ++ End ∷ []) ≡ tally_all t ps
tally_end t [] = refl
tally_end t (p ∷ ps) = tally_end (tally t p) ps

pub without_end : (t : Tally) (ps : List Piece) → agrees (tally_all t (ps ++ End ∷ [])) ≡ true → agrees (tally_all t ps) ≡ true
without_end t ps e = ap agrees (sym (tally_end t ps)) ∙ e

pub with_end : (t : Tally) (ps : List Piece) → agrees (tally_all t ps) ≡ true → agrees (tally_all t (ps ++ End ∷ [])) ≡ true
with_end t ps e = ap agrees (tally_end t ps) ∙ e

tally_append : (t : Tally) (ps qs : List Piece) → tally_all t (ps ++ qs) ≡ tally_all (tally_all t ps) qs
tally_append t [] qs = refl
tally_append t (p ∷ ps) qs = tally_append (tally t p) ps qs

tally_entries : (t : Tally) (bs : List (List ℕ)) (qs : List Piece) → tally_all t (map CodeEntry bs ++ qs) ≡ tally_all t qs
tally_entries t [] qs = refl
tally_entries t (b ∷ bs) qs = tally_entries t bs qs

-- ---- what may still come behind a place

not_function : (low : ℕ) → 12 ≤ low → may_follow low 3 ≡ true → ⊥
unfolding place
not_function low le m = let h : low < 3 = ltb-true _ _ m in omega arith

not_code : (low : ℕ) → 12 ≤ low → may_follow low 10 ≡ true → ⊥
unfolding place
not_code low le m = let h : low < 12 = ltb-true _ _ m in omega arith

not_data : (low : ℕ) → 13 ≤ low → may_follow low 11 ≡ true → ⊥
unfolding place
not_data low le m = let h : low < 13 = ltb-true _ _ m in omega arith

not_count : (low : ℕ) → 12 ≤ low → may_follow low 12 ≡ true → ⊥
unfolding place
not_count low le m = let h : low < 11 = ltb-true _ _ m in omega arith

-- the place never falls
rises : (b : Bool) (low p n : ℕ) → n ≤ low → (b || ltb low p) ≡ true → n ≤ cond b low p
rises true low p n le m = le
rises false low p n le m = let h : low < p = ltb-true _ _ m in omega arith

place_stays : (low id n : ℕ) → n ≤ low → may_follow low id ≡ true → n ≤ last_place low id
place_stays low id n le m = rises (eqb (place id) 0) low (place id) n le m

-- ---- the pieces that a section can be

abbrev ByKind : (Piece → Type 0) → ℕ → Piece → Type 0
ByKind P id p = ((a b : List ℕ) → P (Custom a b)) → ((n : ℕ) → P (Start n)) → ((n : ℕ) → id ≡ 12 → P (DataCount n)) → ((n : ℕ) (b : List ℕ) → P (Counted id n b)) → ((b : List ℕ) → P (Unknown id b)) → P p

by_kind : (P : Piece → Type 0) (id : ℕ) (body : List ℕ) (p : Piece) → piece_of id body ≡ Some p → ByKind P id p
unfolding piece_of
by_kind P id body p e custom start count counted unknown =
    elim (chosen (eqb id 0) (option_map (λ n. Custom n.0 n.1) (name_at body)) _ (Some p) e) [
      | inl a ↦ let x = map_some (λ (n : List ℕ × List ℕ). Custom n.0 n.1) (name_at body) p a.1 in subst P x.2 (custom x.0.0 x.0.1)
      | inr a ↦ elim (chosen (eqb id 8) (option_map Start (number_of body)) _ (Some p) a.1) [
        | inl b ↦ let x = map_some Start (number_of body) p b.1 in subst P x.2 (start x.0)
        | inr b ↦ elim (chosen (eqb id 12) (option_map DataCount (number_of body)) _ (Some p) b.1) [
          | inl c ↦ let x = map_some DataCount (number_of body) p c.1 in subst P x.2 (count x.0 (eqb-true _ _ c.0))
          | inr c ↦ elim (chosen (ltb id 14) (option_map (λ n. Counted id n.0 n.1) (u32_at body)) (Some (Unknown id body)) (Some p) c.1) [
            | inl d ↦ let x = map_some (λ (n : ℕ × List ℕ). Counted id n.0 n.1) (u32_at body) p d.1 in subst P x.2 (counted x.0.0 x.0.1)
            | inr d ↦ subst P (some_is (Unknown id body) p d.1) (unknown body)
          ]
        ]
      ]
    ]

-- ---- the functions and the bodies, from the code section on

pub record Kept (t u : Tally) : Type 0 where
  pub functions : u.functions ≡ t.functions
  pub bodies : u.bodies ≡ t.bodies

counted_kept : (t : Tally) (id n : ℕ) (b : List ℕ) → (id ≡ 3 → ⊥) → Kept t (tally t (Counted id n b))
counted_kept t id n b three_not =
    elim (truth (eqb id 3)) [
      | inl three ↦ absurd (three_not (eqb-true _ _ three))
      | inr other ↦ elim (truth (eqb id 11)) [
        | inl eleven ↦ record { functions = rw (other, eleven) refl; bodies = rw (other, eleven) refl }
        | inr more ↦ record { functions = rw (other, more) refl; bodies = rw (other, more) refl }
      ]
    ]

piece_kept : (t : Tally) (low id : ℕ) (body : List ℕ) (p : Piece) → 12 ≤ low → may_follow low id ≡ true → piece_of id body ≡ Some p → Kept t (tally t p)
piece_kept t low id body p le m e =
    by_kind (λ q. Kept t (tally t q)) id body p e
    (λ a b. record { functions = refl; bodies = refl })
    (λ n. record { functions = refl; bodies = refl })
    (λ n i. record { functions = refl; bodies = refl })
    (λ n b. counted_kept t id n b (λ i. not_function low le (subst (λ (k : ℕ). may_follow low k ≡ true) i m)))
    (λ b. record { functions = refl; bodies = refl })

section_kept : (t : Tally) (low id : ℕ) (body : List ℕ) (ps : List Piece) → 12 ≤ low → may_follow low id ≡ true → pieces_of (id, body) ≡ Some ps → Kept t (tally_all t ps)
section_kept t low id body ps le m e =
    elim (chosen (eqb id 10) (code_pieces body) (option_map (λ (q : Piece). q ∷ []) (piece_of id body)) (Some ps) e) [
      | inl a ↦ absurd (not_code low le (subst (λ (k : ℕ). may_follow low k ≡ true) (eqb-true _ _ a.0) m))
      | inr a ↦
          let y = map_some (λ (q : Piece). q ∷ []) (piece_of id body) ps a.1 in
          subst (λ (qs : List Piece). Kept t (tally_all t qs)) y.2 (piece_kept t low id body y.0 le m y.1)
    ]

kept_twice : (t u v : Tally) → Kept t u → Kept u v → Kept t v
kept_twice t u v a b = record { functions = b.functions ∙ a.functions; bodies = b.bodies ∙ a.bodies }

sections_kept : (ss : List (ℕ × List ℕ)) (t : Tally) (low : ℕ) (qs : List Piece) → 12 ≤ low → Follow low ss → all_pieces ss ≡ Some qs → Kept t (tally_all t qs)
sections_kept [] t low qs le o e = subst (λ (rs : List Piece). Kept t (tally_all t rs)) (some_is [] qs e) (record { functions = refl; bodies = refl })
sections_kept ((id, body) ∷ ss) t low qs le o e =
    let a = then_some (λ (ps : List Piece). option_map (λ rs. ps ++ rs) (all_pieces ss)) (pieces_of (id, body)) qs e in
    let b = map_some (λ (rs : List Piece). a.0 ++ rs) (all_pieces ss) qs a.2 in
    let first = section_kept t low id body a.0 le o.0 a.1 in
    let then = sections_kept ss (tally_all t a.0) (last_place low id) b.0 (place_stays low id 12 le o.0) o.1 b.1 in
    let both : Kept t (tally_all (tally_all t a.0) b.0) = kept_twice t (tally_all t a.0) (tally_all (tally_all t a.0) b.0) first then in
    subst (λ (rs : List Piece). Kept t (tally_all t rs)) b.2 (subst (Kept t) (sym (tally_append t a.0 b.0)) both)

-- ---- all counts, behind the data section

counted_same : (t : Tally) (id n : ℕ) (b : List ℕ) → (id ≡ 3 → ⊥) → (id ≡ 11 → ⊥) → tally t (Counted id n b) ≡ t
counted_same t id n b three_not eleven_not =
    elim (truth (eqb id 3)) [
      | inl three ↦ absurd (three_not (eqb-true _ _ three))
      | inr other ↦ elim (truth (eqb id 11)) [
        | inl eleven ↦ absurd (eleven_not (eqb-true _ _ eleven))
        | inr more ↦ rw (other, more) refl
      ]
    ]

at_12 : (low : ℕ) → 13 ≤ low → 12 ≤ low
at_12 low le = omega arith

piece_same : (t : Tally) (low id : ℕ) (body : List ℕ) (p : Piece) → 13 ≤ low → may_follow low id ≡ true → piece_of id body ≡ Some p → tally t p ≡ t
piece_same t low id body p le m e =
    by_kind (λ q. tally t q ≡ t) id body p e
    (λ a b. refl)
    (λ n. refl)
    (λ n i. absurd (not_count low (at_12 low le) (subst (λ (k : ℕ). may_follow low k ≡ true) i m)))
    (λ n b. counted_same t id n b
    (λ i. not_function low (at_12 low le) (subst (λ (k : ℕ). may_follow low k ≡ true) i m))
    (λ i. not_data low le (subst (λ (k : ℕ). may_follow low k ≡ true) i m)))
    (λ b. refl)

section_same : (t : Tally) (low id : ℕ) (body : List ℕ) (ps : List Piece) → 13 ≤ low → may_follow low id ≡ true → pieces_of (id, body) ≡ Some ps → tally_all t ps ≡ t
section_same t low id body ps le m e =
    elim (chosen (eqb id 10) (code_pieces body) (option_map (λ (q : Piece). q ∷ []) (piece_of id body)) (Some ps) e) [
      | inl a ↦ absurd (not_code low (at_12 low le) (subst (λ (k : ℕ). may_follow low k ≡ true) (eqb-true _ _ a.0) m))
      | inr a ↦
          let y = map_some (λ (q : Piece). q ∷ []) (piece_of id body) ps a.1 in
          subst (λ (qs : List Piece). tally_all t qs ≡ t) y.2 (piece_same t low id body y.0 le m y.1)
    ]

sections_same : (ss : List (ℕ × List ℕ)) (t : Tally) (low : ℕ) (qs : List Piece) → 13 ≤ low → Follow low ss → all_pieces ss ≡ Some qs → tally_all t qs ≡ t
sections_same [] t low qs le o e = subst (λ (rs : List Piece). tally_all t rs ≡ t) (some_is [] qs e) refl
sections_same ((id, body) ∷ ss) t low qs le o e =
    let a = then_some (λ (ps : List Piece). option_map (λ rs. ps ++ rs) (all_pieces ss)) (pieces_of (id, body)) qs e in
    let b = map_some (λ (rs : List Piece). a.0 ++ rs) (all_pieces ss) qs a.2 in
    let first = section_same t low id body a.0 le o.0 a.1 in
    let then = sections_same ss (tally_all t a.0) (last_place low id) b.0 (place_stays low id 13 le o.0) o.1 b.1 in
    subst (λ (rs : List Piece). tally_all t rs ≡ t) b.2 (tally_append t a.0 b.0 ∙ then ∙ first)

-- ---- so they agree at that place if they do at the end

both_hold : (a b : Bool) → (a && b) ≡ true → (a ≡ true) × (b ≡ true)
both_hold true b e = (refl, e)
both_hold false b e = absurd cc

pub settled_code : (t : Tally) (low : ℕ) (ss : List (ℕ × List ℕ)) (bs : List (List ℕ)) (others : List Piece) → Follow (last_place low 10) ss → all_pieces ss ≡ Some others → agrees (tally_all t (map CodeEntry bs ++ (others ++ End ∷ []))) ≡ true → eqb t.functions t.bodies ≡ true
unfolding place
settled_code t low ss bs others o m a =
    let k = sections_kept ss t 12 others (omega arith) o m in
    let e : agrees (tally_all t others) ≡ true = without_end t others (ap agrees (sym (tally_entries t bs (others ++ End ∷ []))) ∙ a) in
    let f = both_hold (eqb (tally_all t others).functions (tally_all t others).bodies) (is_none_or (tally_all t others).declared (tally_all t others).segments) e in
    ap (λ (n : ℕ). eqb n t.bodies) (sym k.functions) ∙ ap (eqb (tally_all t others).functions) (sym k.bodies) ∙ f.0

settled_data : (t : Tally) (low : ℕ) (ss : List (ℕ × List ℕ)) (others : List Piece) → Follow (last_place low 11) ss → all_pieces ss ≡ Some others → agrees (tally_all t (others ++ End ∷ [])) ≡ true → is_none_or t.declared t.segments ≡ true
unfolding place
settled_data t low ss others o m a =
    let k = sections_same ss t 13 others (omega arith) o m in
    let e : agrees t ≡ true = ap agrees (sym k) ∙ without_end t others a in
    (both_hold (eqb t.functions t.bodies) (is_none_or t.declared t.segments) e).1

settled_counted : (t : Tally) (low id n : ℕ) (b : List ℕ) (ss : List (ℕ × List ℕ)) (others : List Piece) → Follow (last_place low id) ss → all_pieces ss ≡ Some others → agrees (tally_all t (others ++ End ∷ [])) ≡ true → settled t (Counted id n b) ≡ true
settled_counted t low id n b ss others o m a =
    elim (truth (eqb id 11)) [
      | inl eleven ↦ ap (λ (c : Bool). cond c (is_none_or t.declared t.segments) true) eleven
          ∙ settled_data t low ss others (subst (λ (k : ℕ). Follow (last_place low k) ss) (eqb-true _ _ eleven) o) m a
      | inr other ↦ ap (λ (c : Bool). cond c (is_none_or t.declared t.segments) true) other
    ]

pub settled_piece : (t : Tally) (low id : ℕ) (body : List ℕ) (p : Piece) (ss : List (ℕ × List ℕ)) (others : List Piece) → piece_of id body ≡ Some p → Follow (last_place low id) ss → all_pieces ss ≡ Some others → agrees (tally_all t (others ++ End ∷ [])) ≡ true → settled t p ≡ true
settled_piece t low id body p ss others e o m a =
    by_kind (λ q. settled t q ≡ true) id body p e
    (λ x y. refl) (λ n. refl) (λ n i. refl)
    (λ n b. settled_counted t low id n b ss others o m a)
    (λ b. refl)
