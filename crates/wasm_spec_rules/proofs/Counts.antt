-- What the tally of a module's pieces has at its end is what the one section with this id says.
use Rattle.std.proofs.Common.{◌≡◌, ◌≢◌, refl, ap, subst, ◌∙◌, inl, inr, ℕ, ◌+◌, ◌<◌, eqb, List, [], ◌∷◌, ◌++◌, Some, arith}
use Rattle.std.specs.Option.{option_map}
use Rattle.std.proofs.lemmas.Bool.{eqb-true, eqb-false}
use Rattle.wasm_readers_errors.specs.WasmSpec.Framing.{Piece, place, Below, InOrder, pieces_of, all_pieces, Tally, tally, tally_all}
use Rattle.wasm_spec_rules.proofs.Tests.{truth, then_some, map_some}

-- the sum of what each piece has
abbrev pub total : (Piece → ℕ) → List Piece → ℕ
total m [] = 0
total m (p ∷ ps) = m p + total m ps

pub total-append : (m : Piece → ℕ) (ps qs : List Piece) → total m (ps ++ qs) ≡ total m ps + total m qs
total-append m [] qs = omega arith
total-append m (p ∷ ps) qs = omega (arith, total-append m ps qs)

tally_all-append : (t : Tally) (ps qs : List Piece) → tally_all t (ps ++ qs) ≡ tally_all (tally_all t ps) qs
tally_all-append t [] qs = refl
tally_all-append t (p ∷ ps) qs = tally_all-append (tally t p) ps qs

-- pieces that have none, and leave the count of the tally
abbrev pub AreQuiet : (Piece → ℕ) → (Tally → ℕ) → List Piece → Type 0
AreQuiet m count ps = (total m ps ≡ 0) × ((t : Tally) → count (tally_all t ps) ≡ count t)

-- the sections of one id, which alone say what is counted
module _ (m : Piece → ℕ) (count : Tally → ℕ) (id : ℕ) (placed : 0 < place id)
    (quiet : (s : ℕ × List ℕ) (qs : List Piece) → s.0 ≢ id → pieces_of s ≡ Some qs → AreQuiet m count qs)
    (loud : (s : ℕ × List ℕ) (qs : List Piece) → s.0 ≡ id → pieces_of s ≡ Some qs → (t : Tally) → count (tally_all t qs) ≡ total m qs) where
  quiet-append : (ps qs : List Piece) → AreQuiet m count ps → AreQuiet m count qs → AreQuiet m count (ps ++ qs)
  quiet-append ps qs a b = (omega (arith, total-append m ps qs, a.0, b.0), λ t. ap count (tally_all-append t ps qs) ∙ b.1 (tally_all t ps) ∙ a.1 t)

  -- a section that must stand further back is another one
  is_other : (n : ℕ) → (0 < place n → place id < place n) → n ≢ id
  is_other n h e = let g : place id < place id = subst (λ k. 0 < place k → place id < place k) e h placed in omega (arith, g)

  -- none of these sections is behind their place
  quiet_behind : (ss : List (ℕ × List ℕ)) (ps : List Piece) → Below (place id) ss → all_pieces ss ≡ Some ps → AreQuiet m count ps
  quiet_behind [] ps b e = let none : [] ≡ ps = cc in subst (AreQuiet m count) none (refl, λ t. refl)
  quiet_behind (s ∷ ss) ps b e =
      let q = then_some (λ (rs : List Piece). option_map (λ (xs : List Piece). rs ++ xs) (all_pieces ss)) (pieces_of s) ps e in
      let r = map_some (λ (xs : List Piece). q.0 ++ xs) (all_pieces ss) ps q.2 in
      subst (AreQuiet m count) r.2 (quiet-append q.0 r.0 (quiet s q.0 (is_other s.0 b.0) q.1) (quiet_behind ss r.0 b.1 r.1))

  abbrev IsCounted : List Piece → Tally → Type 0
  IsCounted ps t = count (tally_all t ps) ≡ total m ps

  counted_here : (qs rs : List Piece) (t : Tally) → IsCounted qs t → AreQuiet m count rs → IsCounted (qs ++ rs) t
  counted_here qs rs t a b =
      let n : count (tally_all (tally_all t qs) rs) ≡ count (tally_all t qs) = b.1 (tally_all t qs) in
      ap count (tally_all-append t qs rs) ∙ omega (arith, n, a, b.0, total-append m qs rs)

  counted_later : (qs rs : List Piece) (t : Tally) → AreQuiet m count qs → IsCounted rs (tally_all t qs) → IsCounted (qs ++ rs) t
  counted_later qs rs t a b = ap count (tally_all-append t qs rs) ∙ omega (arith, b, a.0, total-append m qs rs)

  pub counted_once : (ss : List (ℕ × List ℕ)) (ps : List Piece) → InOrder ss → all_pieces ss ≡ Some ps → (t : Tally) → count t ≡ 0 → IsCounted ps t
  counted_once [] ps o e t z = let none : [] ≡ ps = cc in subst (λ (xs : List Piece). IsCounted xs t) none z
  counted_once (s ∷ ss) ps o e t z =
      let q = then_some (λ (rs : List Piece). option_map (λ (xs : List Piece). rs ++ xs) (all_pieces ss)) (pieces_of s) ps e in
      let r = map_some (λ (xs : List Piece). q.0 ++ xs) (all_pieces ss) ps q.2 in
      subst
      (λ (xs : List Piece). IsCounted xs t)
      r.2
      (elim (truth (eqb s.0 id)) [
        | inl a ↦
            let same : s.0 ≡ id = eqb-true s.0 id a in
            counted_here q.0 r.0 t (loud s q.0 same q.1 t) (quiet_behind ss r.0 (subst (λ n. Below (place n) ss) same o.0) r.1)
        | inr a ↦
            let none = quiet s q.0 (eqb-false s.0 id a) q.1 in
            counted_later q.0 r.0 t none (counted_once ss r.0 o.1 r.1 (tally_all t q.0) (none.1 t ∙ z))
      ])
