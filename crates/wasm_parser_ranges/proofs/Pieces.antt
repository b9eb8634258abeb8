-- What is told of pieces as they come.
use Rattle.std.proofs.Common.{◌≡◌, refl, sym, ap, subst, ◌∙◌, ℕ, List, [], ◌∷◌, ◌++◌, Some, None, append_assoc, append-nil}
use Rattle.wasm_spec.specs.Framing.{Piece, IsFramed}
use Rattle.wasm_parser.specs.Machine.{State, start, next_of, Run, Given}
use Rattle.wasm_parser.proofs.Law.{run_framed, framed_run}
use Rattle.wasm_parser.proofs.RunFronts.{front, stuck}
use Rattle.wasm_parser_ranges.specs.Ranges.{TellsAll, HasNoFraming}

module _ {X : Type 0} (tell : State → Piece → State → List X) where
  -- the same up to a state
  abbrev TellsUpTo : State → List Piece → List X → State → Type 0
  TellsUpTo s [] xs t = (s ≡ t) × (xs ≡ [])
  TellsUpTo s (p ∷ ps) xs t = (u : State) × (next_of s ≡ Some (Some (p, u))) × ((more : List X) × (xs ≡ tell s p u ++ more) × TellsUpTo u ps more t)

  grown : (ps : List Piece) (s t u : State) (xs : List X) (p : Piece) → TellsUpTo s ps xs t → next_of t ≡ Some (Some (p, u)) → TellsUpTo s (ps ++ p ∷ []) (xs ++ tell t p u) u
  grown [] s t u xs p g e =
      let same : xs ++ tell t p u ≡ tell t p u ++ [] = ap (λ (ys : List X). ys ++ tell t p u) g.1 ∙ sym (append-nil (tell t p u)) in
      subst (λ (w : State). TellsUpTo w (p ∷ []) (xs ++ tell t p u) u) (sym g.0) (u, e, ([], same, (refl, refl)))
  grown (q ∷ ps) s t u xs p g e =
      let more = g.2.0 in
      let same : xs ++ tell t p u ≡ tell s q g.0 ++ (more ++ tell t p u) = ap (λ (ys : List X). ys ++ tell t p u) g.2.1 ∙ append_assoc (tell s q g.0) more (tell t p u) in
      (g.0, g.1, (more ++ tell t p u, same, grown ps g.0 t u more p g.2.2 e))

  ended : (ps : List Piece) (s t : State) (xs : List X) → TellsUpTo s ps xs t → next_of t ≡ Some None → TellsAll tell s ps xs
  ended [] s t xs g e = (ap next_of g.0 ∙ e, g.1)
  ended (p ∷ ps) s t xs g e = (g.0, g.1, (g.2.0, g.2.1, ended ps g.0 t g.2.0 g.2.2 e))

  run_of : (ps : List Piece) (s : State) (xs : List X) → TellsAll tell s ps xs → Run s ps
  run_of [] s xs g = g.0
  run_of (p ∷ ps) s xs g = (g.0, g.1, run_of ps g.0 g.2.0 g.2.2)

  given_of : (ps : List Piece) (s t : State) (xs : List X) → TellsUpTo s ps xs t → Given s ps t
  given_of [] s t xs g = g.0
  given_of (p ∷ ps) s t xs g = (g.0, g.1, given_of ps g.0 t g.2.0 g.2.2)

  -- these were told of the pieces that came so far
  pub record SoFar (bytes : List ℕ) (xs : List X) (t : State) : Type 0 where
    pub pieces : List Piece
    pub told : TellsUpTo (start bytes) pieces xs t

  pub begin : (bytes : List ℕ) (t : State) → t ≡ start bytes → SoFar bytes [] t
  begin bytes t e = record { pieces = []; told = (sym e, refl) }

  pub one_more : (bytes : List ℕ) (xs : List X) (t u : State) (p : Piece) → SoFar bytes xs t → next_of t ≡ Some (Some (p, u)) → SoFar bytes (xs ++ tell t p u) u
  one_more bytes xs t u p g e = record { pieces = g.pieces ++ p ∷ []; told = grown g.pieces (start bytes) t u xs p g.told e }

  pub told_all : (bytes : List ℕ) (xs : List X) (t : State) → (g : SoFar bytes xs t) → next_of t ≡ Some None → TellsAll tell (start bytes) g.pieces xs
  told_all bytes xs t g e = ended g.pieces (start bytes) t xs g.told e

  pub framed_all : (bytes : List ℕ) (xs : List X) (t : State) → (g : SoFar bytes xs t) → next_of t ≡ Some None → IsFramed bytes g.pieces
  framed_all bytes xs t g e = run_framed bytes g.pieces (run_of g.pieces (start bytes) xs (told_all bytes xs t g e))

  pub refused : (bytes : List ℕ) (xs : List X) (t : State) → SoFar bytes xs t → next_of t ≡ None → HasNoFraming bytes
  refused bytes xs t g e = λ all f.
      let b = front g.pieces (start bytes) t all (given_of g.pieces (start bytes) t xs g.told) (framed_run bytes all f) in
      stuck t b.0 e b.2
