-- Laws of the machine and the framing, as facts that a contract can name.
use Rattle.std.specs.Prelude.{◌≡◌, ◌<◌, List, ℕ, ◌++◌, ◌∷◌, [], Some, None}
use Rattle.wasm_spec.specs.Framing.{Piece, IsFramed}
use Rattle.wasm_parser.specs.Machine.{State, start, next_of, Run, Given, most_left}

-- a run of the machine through the end is a framing
abbrev pub RunsAreFramings : Type 0
RunsAreFramings = (bytes : List ℕ) (ps : List Piece) → Run (start bytes) ps → IsFramed bytes ps

-- a framing is such a run
abbrev pub FramingsAreRuns : Type 0
FramingsAreRuns = (bytes : List ℕ) (ps : List Piece) → IsFramed bytes ps → Run (start bytes) ps

-- bytes are framed in one way only
abbrev pub OneFraming : Type 0
OneFraming = (bytes : List ℕ) (ps qs : List Piece) → IsFramed bytes ps → IsFramed bytes qs → ps ≡ qs

-- the first pieces that the machine gives are the first of each framing, and the rest of it is still to come
abbrev pub GivenIsFront : Type 0
GivenIsFront = (bytes : List ℕ) (ps all : List Piece) (t : State) → Given (start bytes) ps t → IsFramed bytes all → (rest : List Piece) × (all ≡ ps ++ rest) × Run t rest

-- bytes that the machine refuses after some pieces have no framing
abbrev pub RefusedIsNotFramed : Type 0
RefusedIsNotFramed = (bytes : List ℕ) (ps all : List Piece) (t : State) → Given (start bytes) ps t → next_of t ≡ None → IsFramed bytes all → ⊥

-- one piece more
abbrev pub GivenGrows : Type 0
GivenGrows = (s t u : State) (ps : List Piece) (p : Piece) → Given s ps t → next_of t ≡ Some (Some (p, u)) → Given s (ps ++ p ∷ []) u

-- all pieces
abbrev pub GivenEnds : Type 0
GivenEnds = (s t : State) (ps : List Piece) → Given s ps t → next_of t ≡ Some None → Run s ps

-- each piece leaves fewer to come
abbrev pub PiecesEnd : Type 0
PiecesEnd = (s t : State) (p : Piece) → next_of s ≡ Some (Some (p, t)) → most_left t < most_left s
