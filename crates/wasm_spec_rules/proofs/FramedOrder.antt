-- The pieces of a framed module follow one another in the order of the ranks.
use Rattle.std.proofs.Common.{◌≡◌, ◌≢◌, refl, sym, ap, subst, ◌∙◌, ◌⊎◌, inl, inr, ℕ, zero, suc, ◌+◌, ◌<◌, ◌≤◌, ◌-◌, Bool, true, false, cond, eqb, ltb, List, [], ◌∷◌, ◌++◌, drop, map, length, Some, append_assoc, append-nil, arith}
use Rattle.std.specs.Option.{option_map}
use Rattle.std.proofs.lemmas.Bool.{eqb-true, eqb-false, ltb-true, ltb-false, lt-ltb, ne_eqb}
use Rattle.wasm_readers_errors.specs.WasmSpec.Values.{name_at, u32_at, sized_at, items_at}
use Rattle.wasm_readers_errors.specs.WasmSpec.Framing.{Piece, Version, Custom, Counted, Start, DataCount, CodeStart, CodeEntry, Unknown, End, place, Below, InOrder, piece_of, number_of, code_pieces, pieces_of, all_pieces, IsFramed}
use Rattle.wasm_spec_rules.specs.Sections.{rank, rank_of_section, ranks}
use Rattle.wasm_spec_rules.proofs.SectionRanks.{Follows, done, free, here, body, later}
use Rattle.wasm_spec_rules.proofs.Tests.{truth, then_some, map_some, when, unless, chosen}

-- fewer ranks are behind
one_less : (js : List ℕ) (n : ℕ) (ps : List Piece) → Follows (drop (suc n) js) ps → Follows (drop n js) ps
one_less [] zero ps f = f
one_less [] (suc n) ps f = f
one_less (j ∷ js) zero ps f = later f
one_less (j ∷ js) (suc n) ps f = one_less js n ps f

-- how many ranks end with the section of this place: bodies have a rank of their own
abbrev ended : ℕ → ℕ
ended q = cond (ltb q 12) q (suc q)

abbrev behind : ℕ → List ℕ
behind q = drop (ended q) ranks

-- sections of later places are behind those of earlier ones
-- a test that doesn't hold
differ : (b : Bool) {c : Bool} → b ≡ c → (c ≡ true → ⊥) → b ≡ false
differ true e h = absurd (h (sym e))
differ false e h = refl

suc_less : (q : ℕ) → ltb q 11 ≡ true → suc q < 12
suc_less q a = let h : q < 11 = ltb-true q 11 a in omega arith

not_less : (q : ℕ) → ltb q 12 ≡ false → ltb (suc q) 12 ≡ false
not_less q b = differ (ltb (suc q) 12) refl (λ e. let h : suc q < 12 = ltb-true (suc q) 12 e in let g : 12 ≤ q = ltb-false q 12 b in omega arith)

place_case : (q : ℕ) (ps : List Piece) → (ltb q 11 ≡ true) ⊎ (ltb q 11 ≡ false) → (ltb q 12 ≡ true) ⊎ (ltb q 12 ≡ false) → Follows (behind (suc q)) ps → Follows (behind q) ps
place_case q ps (inl a) (inl b) f =
    let g : Follows (drop (suc q) ranks) ps = subst (λ n. Follows (drop n ranks) ps) (when (ltb (suc q) 12) (suc q) (suc (suc q)) (lt-ltb (suc q) 12 (suc_less q a))) f in
    subst (λ n. Follows (drop n ranks) ps) (sym (when (ltb q 12) q (suc q) b)) (one_less ranks q ps g)
place_case q ps (inl a) (inr b) f = absurd (let h : q < 11 = ltb-true q 11 a in let g : 12 ≤ q = ltb-false q 12 b in omega arith)
place_case q ps (inr a) (inl b) f =
    let eleven : q ≡ 11 = let h : q < 12 = ltb-true q 12 b in let g : 11 ≤ q = ltb-false q 11 a in omega arith in
    let g : Follows (drop 13 ranks) ps = subst (λ n. Follows (behind (suc n)) ps) eleven f in
    subst (λ n. Follows (behind n) ps) (sym eleven) (later (later g))
place_case q ps (inr a) (inr b) f =
    let g : Follows (drop (suc (suc q)) ranks) ps = subst (λ n. Follows (drop n ranks) ps) (unless (ltb (suc q) 12) (suc q) (suc (suc q)) (not_less q b)) f in
    subst (λ n. Follows (drop n ranks) ps) (sym (unless (ltb q 12) q (suc q) b)) (one_less ranks (suc q) ps g)

one_place : (q : ℕ) (ps : List Piece) → Follows (behind (suc q)) ps → Follows (behind q) ps
one_place q ps f = place_case q ps (truth (ltb q 11)) (truth (ltb q 12)) f

more_places : (d q r : ℕ) (ps : List Piece) → r ≡ d + q → Follows (behind r) ps → Follows (behind q) ps
more_places zero q r ps e f = let same : r ≡ q = omega (arith, e) in subst (λ n. Follows (behind n) ps) same f
more_places (suc d) q r ps e f = let next : r ≡ suc (d + q) = omega (arith, e) in more_places d q (d + q) ps refl (one_place (d + q) ps (subst (λ n. Follows (behind n) ps) next f))

pub earlier : (q r : ℕ) (ps : List Piece) → q ≤ r → Follows (behind r) ps → Follows (behind q) ps
earlier q r ps le f = more_places (r - q) q r ps (omega (arith, le)) f

-- a section that has a place stands before what is behind that place
record Stands (id : ℕ) : Type 0 where
  before : ℕ
  is_before : place id ≡ suc before
  next : behind before ≡ rank_of_section id ∷ behind (place id)

-- a section that has no place has no rank
abbrev HasRank : ℕ → Type 0
HasRank id = ((place id ≡ 0) × (rank_of_section id ≡ 0)) ⊎ Stands id

rank-0 : HasRank 0
unfolding place
rank-0 = inl (refl, refl)

rank-1 : HasRank 1
unfolding place
rank-1 = inr (record { before = 0; is_before = refl; next = refl })

rank-2 : HasRank 2
unfolding place
rank-2 = inr (record { before = 1; is_before = refl; next = refl })

rank-3 : HasRank 3
unfolding place
rank-3 = inr (record { before = 2; is_before = refl; next = refl })

rank-4 : HasRank 4
unfolding place
rank-4 = inr (record { before = 3; is_before = refl; next = refl })

rank-5 : HasRank 5
unfolding place
rank-5 = inr (record { before = 4; is_before = refl; next = refl })

rank-6 : HasRank 6
unfolding place
rank-6 = inr (record { before = 6; is_before = refl; next = refl })

rank-7 : HasRank 7
unfolding place
rank-7 = inr (record { before = 7; is_before = refl; next = refl })

rank-8 : HasRank 8
unfolding place
rank-8 = inr (record { before = 8; is_before = refl; next = refl })

rank-9 : HasRank 9
unfolding place
rank-9 = inr (record { before = 9; is_before = refl; next = refl })

rank-11 : HasRank 11
unfolding place
rank-11 = inr (record { before = 12; is_before = refl; next = refl })

rank-12 : HasRank 12
unfolding place
rank-12 = inr (record { before = 10; is_before = refl; next = refl })

rank-13 : HasRank 13
unfolding place
rank-13 = inr (record { before = 5; is_before = refl; next = refl })

-- what is past the last id has no place
past : (n : ℕ) → (place (suc (suc (suc (suc (suc (suc (suc (suc (suc (suc (suc (suc (suc (suc n)))))))))))))) ≡ 0) × (rank_of_section (suc (suc (suc (suc (suc (suc (suc (suc (suc (suc (suc (suc (suc (suc n)))))))))))))) ≡ 0)
unfolding place
past n = (refl, unless (eqb (suc (suc (suc (suc (suc (suc (suc (suc (suc (suc (suc (suc (suc (suc n)))))))))))))) 11) 14 0 (ne_eqb _ 11 (λ e. omega (arith, e))))

known_rank : (id : ℕ) → id ≢ 10 → HasRank id
known_rank zero h = rank-0
known_rank (suc zero) h = rank-1
known_rank (suc (suc zero)) h = rank-2
known_rank (suc (suc (suc zero))) h = rank-3
known_rank (suc (suc (suc (suc zero)))) h = rank-4
known_rank (suc (suc (suc (suc (suc zero))))) h = rank-5
known_rank (suc (suc (suc (suc (suc (suc zero)))))) h = rank-6
known_rank (suc (suc (suc (suc (suc (suc (suc zero))))))) h = rank-7
known_rank (suc (suc (suc (suc (suc (suc (suc (suc zero)))))))) h = rank-8
known_rank (suc (suc (suc (suc (suc (suc (suc (suc (suc zero))))))))) h = rank-9
known_rank (suc (suc (suc (suc (suc (suc (suc (suc (suc (suc zero)))))))))) h = absurd (h refl)
known_rank (suc (suc (suc (suc (suc (suc (suc (suc (suc (suc (suc zero))))))))))) h = rank-11
known_rank (suc (suc (suc (suc (suc (suc (suc (suc (suc (suc (suc (suc zero)))))))))))) h = rank-12
known_rank (suc (suc (suc (suc (suc (suc (suc (suc (suc (suc (suc (suc (suc zero))))))))))))) h = rank-13
known_rank (suc (suc (suc (suc (suc (suc (suc (suc (suc (suc (suc (suc (suc (suc n)))))))))))))) h = inl (past n)

rank_past : (id : ℕ) → 14 ≤ id → rank_of_section id ≡ 0
rank_past id le = ap rank_of_section (omega (arith, le)) ∙ (past (id - 14)).1

-- the piece of a section has the section's rank
piece_rank : (id : ℕ) (bytes : List ℕ) (p : Piece) → piece_of id bytes ≡ Some p → rank p ≡ rank_of_section id
unfolding piece_of place
piece_rank id bytes p e =
    elim (chosen (eqb id 0) _ _ (Some p) e) [
      | inl a ↦ let m = map_some (λ (n : List ℕ × List ℕ). Custom n.0 n.1) (name_at bytes) p a.1 in sym (ap rank m.2) ∙ sym (ap rank_of_section (eqb-true id 0 a.0))
      | inr a ↦ elim (chosen (eqb id 8) _ _ (Some p) a.1) [
        | inl b ↦ let m = map_some Start (number_of bytes) p b.1 in sym (ap rank m.2) ∙ sym (ap rank_of_section (eqb-true id 8 b.0))
        | inr b ↦ elim (chosen (eqb id 12) _ _ (Some p) b.1) [
          | inl c ↦ let m = map_some DataCount (number_of bytes) p c.1 in sym (ap rank m.2) ∙ sym (ap rank_of_section (eqb-true id 12 c.0))
          | inr c ↦ elim (chosen (ltb id 14) _ _ (Some p) c.1) [
            | inl d ↦ let m = map_some (λ (n : ℕ × List ℕ). Counted id n.0 n.1) (u32_at bytes) p d.1 in sym (ap rank m.2)
            | inr d ↦ let same : Unknown id bytes ≡ p = cc in sym (ap rank same) ∙ sym (rank_past id (ltb-false id 14 d.0))
          ]
        ]
      ]
    ]

-- bodies, and what is behind them
bodies_follow : (bs : List (List ℕ)) (ps : List Piece) → Follows (14 ∷ []) ps → Follows (13 ∷ 14 ∷ []) (map CodeEntry bs ++ ps)
bodies_follow [] ps f = later f
bodies_follow (b ∷ bs) ps f = body refl refl (bodies_follow bs ps f)

code_follow : (bytes : List ℕ) (qs ps : List Piece) → code_pieces bytes ≡ Some qs → Follows (behind 12) ps → Follows (behind 11) (qs ++ ps)
code_follow bytes qs ps e f =
    let n = then_some (λ (n : ℕ × List ℕ). option_map (λ (bs : List (List ℕ)). CodeStart n.0 (length n.1) ∷ map CodeEntry bs) (items_at sized_at n.0 n.1)) (u32_at bytes) qs e in
    let m = map_some (λ (bs : List (List ℕ)). CodeStart n.0.0 (length n.0.1) ∷ map CodeEntry bs) (items_at sized_at n.0.0 n.0.1) qs n.2 in
    subst (λ (xs : List Piece). Follows (behind 11) (xs ++ ps)) m.2 (here refl (bodies_follow m.0 ps f))

-- one section, and what is behind it
module _ (id : ℕ) (bytes : List ℕ) (qs ps : List Piece) (low : ℕ) where
  code_section : eqb id 10 ≡ true → code_pieces bytes ≡ Some qs → (0 < place id → low < place id) → Follows (behind (place id)) ps → Follows (behind low) (qs ++ ps)
  unfolding place
  code_section i e above f =
      let ten : id ≡ 10 = eqb-true id 10 i in
      let at : place id ≡ 12 = ap place ten in
      let h : low < place id = above (omega (arith, at)) in
      let g : low < 12 = omega (arith, at, h) in
      earlier low 11 (qs ++ ps) (omega (arith, g)) (code_follow bytes qs ps e (subst (λ n. Follows (behind (place n)) ps) ten f))

  -- a section with a place
  placed : (p : Piece) → rank p ≡ rank_of_section id → Stands id → (0 < place id → low < place id) → Follows (behind (place id)) ps → Follows (behind low) (p ∷ ps)
  placed p r s above f =
      let b = s.before in
      let at : place id ≡ suc b = s.is_before in
      let g : low < suc b = subst (λ n. low < n) at (above (omega (arith, at))) in
      earlier low b (p ∷ ps) (omega (arith, g)) (subst (λ ks. Follows ks (p ∷ ps)) (sym s.next) (here r f))

  other_section : eqb id 10 ≡ false → option_map (λ (p : Piece). p ∷ []) (piece_of id bytes) ≡ Some qs → (0 < place id → low < place id)
      → (place id ≡ 0 → Follows (behind low) ps) → (Stands id → Follows (behind (place id)) ps) → Follows (behind low) (qs ++ ps)
  other_section i e above free_rest rest =
      let m = map_some (λ (p : Piece). p ∷ []) (piece_of id bytes) qs e in
      let r : rank m.0 ≡ rank_of_section id = piece_rank id bytes m.0 m.1 in
      subst
      (λ (xs : List Piece). Follows (behind low) (xs ++ ps))
      m.2
      (elim (known_rank id (eqb-false id 10 i)) [
        | inl none ↦ free (r ∙ none.1) (free_rest none.0)
        | inr s ↦ placed m.0 r s above (rest s)
      ])

-- sections, and what may stand behind any of them
module _ (last : List Piece) (lasts : (m : ℕ) → Follows (behind m) last) where
  sections_follow : (ss : List (ℕ × List ℕ)) (low : ℕ) (ps : List Piece) → Below low ss → InOrder ss → all_pieces ss ≡ Some ps → Follows (behind low) (ps ++ last)
  sections_follow [] low ps b o e = let none : [] ≡ ps = cc in subst (λ (xs : List Piece). Follows (behind low) (xs ++ last)) none (lasts low)
  sections_follow (s ∷ ss) low ps b o e =
      let q = then_some (λ (rs : List Piece). option_map (λ (xs : List Piece). rs ++ xs) (all_pieces ss)) (pieces_of s) ps e in
      let r = map_some (λ (xs : List Piece). q.0 ++ xs) (all_pieces ss) ps q.2 in
      let tail = r.0 ++ last in
      let rest : (m : ℕ) → Below m ss → Follows (behind m) tail = λ m h. sections_follow ss m r.0 h o.1 r.1 in
      subst
      (λ (xs : List Piece). Follows (behind low) (xs ++ last))
      r.2
      (subst
      (λ (xs : List Piece). Follows (behind low) xs)
      (sym (append_assoc q.0 r.0 last))
      (elim (chosen (eqb s.0 10) _ _ (Some q.0) q.1) [
        | inl a ↦ code_section s.0 s.1 q.0 tail low a.0 a.1 b.0 (rest (place s.0) o.0)
        | inr a ↦ other_section s.0 s.1 q.0 tail low a.0 a.1 b.0 (λ z. rest low b.1) (λ w. rest (place s.0) o.0)
      ]))

below_none : (ss : List (ℕ × List ℕ)) → Below 0 ss
below_none [] = tt
below_none (s ∷ ss) = ((λ some. some), below_none ss)

-- a piece between the header and the end
abbrev pub IsInner : Piece → Type 0
IsInner (Version number kind) = ⊥
IsInner (Custom name bytes) = Unit {0}
IsInner (Counted id n bytes) = Unit {0}
IsInner (Start x) = Unit {0}
IsInner (DataCount n) = Unit {0}
IsInner (CodeStart n size) = Unit {0}
IsInner (CodeEntry bytes) = Unit {0}
IsInner (Unknown id bytes) = Unit {0}
IsInner End = ⊥

abbrev pub AreInner : List Piece → Type 0
AreInner [] = Unit {0}
AreInner (p ∷ ps) = IsInner p × AreInner ps

inner-append : (ps qs : List Piece) → AreInner ps → AreInner qs → AreInner (ps ++ qs)
inner-append [] qs a b = b
inner-append (p ∷ ps) qs a b = (a.0, inner-append ps qs a.1 b)

piece_inner : (id : ℕ) (bytes : List ℕ) (p : Piece) → piece_of id bytes ≡ Some p → IsInner p
unfolding piece_of
piece_inner id bytes p e =
    elim (chosen (eqb id 0) _ _ (Some p) e) [
      | inl a ↦ let m = map_some (λ (n : List ℕ × List ℕ). Custom n.0 n.1) (name_at bytes) p a.1 in subst IsInner m.2 tt
      | inr a ↦ elim (chosen (eqb id 8) _ _ (Some p) a.1) [
        | inl b ↦ let m = map_some Start (number_of bytes) p b.1 in subst IsInner m.2 tt
        | inr b ↦ elim (chosen (eqb id 12) _ _ (Some p) b.1) [
          | inl c ↦ let m = map_some DataCount (number_of bytes) p c.1 in subst IsInner m.2 tt
          | inr c ↦ elim (chosen (ltb id 14) _ _ (Some p) c.1) [
            | inl d ↦ let m = map_some (λ (n : ℕ × List ℕ). Counted id n.0 n.1) (u32_at bytes) p d.1 in subst IsInner m.2 tt
            | inr d ↦ let same : Unknown id bytes ≡ p = cc in subst IsInner same tt
          ]
        ]
      ]
    ]

bodies_inner : (bs : List (List ℕ)) → AreInner (map CodeEntry bs)
bodies_inner [] = tt
bodies_inner (b ∷ bs) = (tt, bodies_inner bs)

code_inner : (bytes : List ℕ) (qs : List Piece) → code_pieces bytes ≡ Some qs → AreInner qs
code_inner bytes qs e =
    let n = then_some (λ (n : ℕ × List ℕ). option_map (λ (bs : List (List ℕ)). CodeStart n.0 (length n.1) ∷ map CodeEntry bs) (items_at sized_at n.0 n.1)) (u32_at bytes) qs e in
    let m = map_some (λ (bs : List (List ℕ)). CodeStart n.0.0 (length n.0.1) ∷ map CodeEntry bs) (items_at sized_at n.0.0 n.0.1) qs n.2 in
    subst AreInner m.2 (tt, bodies_inner m.0)

one_inner : (s : ℕ × List ℕ) (qs : List Piece) → pieces_of s ≡ Some qs → AreInner qs
one_inner s qs e =
    elim (chosen (eqb s.0 10) _ _ (Some qs) e) [
      | inl a ↦ code_inner s.1 qs a.1
      | inr a ↦ let m = map_some (λ (p : Piece). p ∷ []) (piece_of s.0 s.1) qs a.1 in subst AreInner m.2 (piece_inner s.0 s.1 m.0 m.1, tt)
    ]

sections_inner : (ss : List (ℕ × List ℕ)) (ps : List Piece) → all_pieces ss ≡ Some ps → AreInner ps
sections_inner [] ps e = let none : [] ≡ ps = cc in subst AreInner none tt
sections_inner (s ∷ ss) ps e =
    let q = then_some (λ (rs : List Piece). option_map (λ (xs : List Piece). rs ++ xs) (all_pieces ss)) (pieces_of s) ps e in
    let r = map_some (λ (xs : List Piece). q.0 ++ xs) (all_pieces ss) ps q.2 in
    subst AreInner r.2 (inner-append q.0 r.0 (one_inner s q.0 q.1) (sections_inner ss r.0 r.1))

-- the pieces between the header and the end, in the order of the ranks
pub others_inner : (bytes : List ℕ) (pieces : List Piece) (f : IsFramed bytes pieces) → AreInner f.others
others_inner bytes pieces f = sections_inner f.sections f.others f.made

pub others_follow : (bytes : List ℕ) (pieces : List Piece) (f : IsFramed bytes pieces) → Follows ranks f.others
others_follow bytes pieces f =
    subst (λ (xs : List Piece). Follows ranks xs) (append-nil f.others) (sections_follow [] (λ m. done) f.sections 0 f.others (below_none f.sections) f.in_order f.made)
