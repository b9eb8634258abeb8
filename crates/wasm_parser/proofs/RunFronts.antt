-- A run that was begun, and what is still to come of it.
use Rattle.std.proofs.Common.{◌≡◌, List, [], ◌∷◌, ◌++◌, Some, None, refl, sym, ap, subst, ◌∙◌}
use Rattle.wasm_spec.specs.Framing.{Piece}
use Rattle.wasm_parser.specs.Machine.{State, next_of, Run, Given}

first_is : (t u : State) (p : Piece) (rs : List Piece) → next_of t ≡ Some (Some (p, u)) → Run t rs → (qs : List Piece) × (rs ≡ p ∷ qs) × Run u qs
first_is t u p [] e r = let h = sym e ∙ r in absurd cc
first_is t u p (q ∷ qs) e r =
    let h = sym r.1 ∙ e in
    let same : ◌≡◌ {A = Piece × State} (q, r.0) (p, u) = cc in
    (qs, ap (λ (x : Piece × State). x.0 ∷ qs) same, subst (λ (v : State). Run v qs) (ap (λ (x : Piece × State). x.1) same) r.2)

pub front : (ps : List Piece) (s t : State) (all : List Piece) → Given s ps t → Run s all → (rest : List Piece) × (all ≡ ps ++ rest) × Run t rest
front [] s t all g r = (all, refl, subst (λ (u : State). Run u all) g r)
front (p ∷ ps) s t all g r =
    let f = first_is s g.0 p all g.1 r in
    let b = front ps g.0 t f.0 g.2 f.2 in
    (b.0, f.1 ∙ ap (λ (qs : List Piece). p ∷ qs) b.1, b.2)

pub grows : (ps : List Piece) (s t u : State) (p : Piece) → Given s ps t → next_of t ≡ Some (Some (p, u)) → Given s (ps ++ p ∷ []) u
grows [] s t u p g e = (u, ap next_of g ∙ e, refl)
grows (q ∷ ps) s t u p g e = (g.0, g.1, grows ps g.0 t u p g.2 e)

pub ends : (ps : List Piece) (s t : State) → Given s ps t → next_of t ≡ Some None → Run s ps
ends [] s t g e = ap next_of g ∙ e
ends (p ∷ ps) s t g e = (g.0, g.1, ends ps g.0 t g.2 e)

pub stuck : (t : State) (qs : List Piece) → next_of t ≡ None → Run t qs → ⊥
stuck t [] e r = let h = sym e ∙ r in cc
stuck t (q ∷ qs) e r = let h = sym e ∙ r.1 in cc

pub one_run : (s : State) (ps qs : List Piece) → Run s ps → Run s qs → ps ≡ qs
one_run s [] [] r q = refl
one_run s [] (x ∷ qs) r q = let h = sym r ∙ q.1 in absurd cc
one_run s (p ∷ ps) qs r q =
    let f = first_is s r.0 p qs r.1 q in
    ap (λ (xs : List Piece). p ∷ xs) (one_run r.0 ps f.0 r.2 f.2) ∙ sym f.1
