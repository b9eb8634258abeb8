-- The order of sections, as the machine sees it.
use Rattle.std.proofs.Common.{◌≡◌, ◌<◌, ◌≤◌, ℕ, Bool, true, false, cond, eqb, ltb, List, [], ◌∷◌, refl, arith}
use Rattle.std.specs.Prelude.{◌||◌}
use Rattle.std.proofs.lemmas.Bool.{eqb-true, eqb-false, ltb-true, lt-ltb}
use Rattle.wasm_spec.specs.Framing.{place, Below, InOrder}
use Rattle.wasm_parser.specs.Machine.{may_follow, last_place}

-- the sections may come one after another behind the place low
abbrev pub Follow : ℕ → List (ℕ × List ℕ) → Type 0
Follow low [] = Unit {0}
Follow low (s ∷ ss) = (may_follow low s.0 ≡ true) × Follow (last_place low s.0) ss

below_lower : (ss : List (ℕ × List ℕ)) (low high : ℕ) → low ≤ high → Below high ss → Below low ss
below_lower [] low high le b = tt
below_lower (s ∷ ss) low high le b = ((λ some. let h : high < place s.0 = b.0 some in omega arith), below_lower ss low high le b.1)

pub below_zero : (ss : List (ℕ × List ℕ)) → Below 0 ss
below_zero [] = tt
below_zero (s ∷ ss) = ((λ some. some), below_zero ss)

above : (b : Bool) (low p : ℕ) → eqb p 0 ≡ b → (b || ltb low p) ≡ true → 0 < p → low < p
above true low p e m some = let z : p ≡ 0 = eqb-true _ _ e in omega arith
above false low p e m some = ltb-true _ _ m

low_last : (b : Bool) (low p : ℕ) → eqb p 0 ≡ b → (b || ltb low p) ≡ true → low ≤ cond b low p
low_last true low p e m = omega arith
low_last false low p e m = let h : low < p = ltb-true _ _ m in omega arith

place_last : (b : Bool) (low p : ℕ) → eqb p 0 ≡ b → p ≤ cond b low p
place_last true low p e = let z : p ≡ 0 = eqb-true _ _ e in omega arith
place_last false low p e = omega arith

pub to_below : (ss : List (ℕ × List ℕ)) (low : ℕ) → Follow low ss → Below low ss × InOrder ss
to_below [] low f = (tt, tt)
to_below (s ∷ ss) low f =
    let p = place s.0 in
    let b = to_below ss (last_place low s.0) f.1 in (
      ((λ some. above (eqb p 0) low p refl f.0 some), below_lower ss low (last_place low s.0) (low_last (eqb p 0) low p refl f.0) b.0),
      (below_lower ss p (last_place low s.0) (place_last (eqb p 0) low p refl) b.0, b.1),
    )

pub to_order : (ss : List (ℕ × List ℕ)) (low : ℕ) → Follow low ss → InOrder ss
to_order ss low f = (to_below ss low f).1

may : (b : Bool) (low p : ℕ) → eqb p 0 ≡ b → (0 < p → low < p) → (b || ltb low p) ≡ true
may true low p e h = refl
may false low p e h = let z : p ≡ 0 → ⊥ = eqb-false _ _ e in lt-ltb _ _ (h (omega arith))

below_last : (b : Bool) (ss : List (ℕ × List ℕ)) (low p : ℕ) → Below low ss → Below p ss → Below (cond b low p) ss
below_last true ss low p l h = l
below_last false ss low p l h = h

pub from_order : (ss : List (ℕ × List ℕ)) (low : ℕ) → Below low ss → InOrder ss → Follow low ss
from_order [] low b o = tt
from_order (s ∷ ss) low b o =
    let p = place s.0 in
    (may (eqb p 0) low p refl b.0, from_order ss (last_place low s.0) (below_last (eqb p 0) ss low p b.1 o.0) o.1)
