-- The pieces of a module in the order of their sections, kind by kind.
use Rattle.std.specs.Prelude.{ℕ, ◌==◌, if◌then◌else◌, List, [], ◌∷◌, Option, Some}
use Rattle.std.specs.Option.{option_and_then}
use Rattle.wasm_readers_errors.specs.WasmSpec.Framing.{Piece, Counted, Start, DataCount, CodeStart, CodeEntry, place}

-- one item after another
abbrev pub each : {S V : Type 0} → (S → V → Option S) → S → List V → Option S
each add s [] = Some s
each add s (x ∷ xs) = option_and_then (λ t. each add t xs) (add s x)

-- the place of a piece among the others: that of its section, where bodies come behind the start of theirs; 0 for what
-- may stand anywhere
abbrev pub rank_of_section : ℕ → ℕ
rank_of_section id = if id == 11 then 14 else place id

abbrev pub rank : Piece → ℕ
rank (Counted id n bytes) = rank_of_section id
rank (Start x) = 9
rank (DataCount n) = 11
rank (CodeStart n size) = 12
rank (CodeEntry bytes) = 13
rank _ = 0

-- the pieces of one rank
abbrev pub at_rank : ℕ → List Piece → List Piece
at_rank k [] = []
at_rank k (p ∷ ps) = if rank p == k then p ∷ at_rank k ps else at_rank k ps

-- the ranks in their order
abbrev pub ranks : List ℕ
ranks = 1 ∷ 2 ∷ 3 ∷ 4 ∷ 5 ∷ 6 ∷ 7 ∷ 8 ∷ 9 ∷ 10 ∷ 11 ∷ 12 ∷ 13 ∷ 14 ∷ []

-- the pieces of each of these ranks in turn
abbrev pub by_rank : {S : Type 0} → (S → Piece → Option S) → List ℕ → S → List Piece → Option S
by_rank step [] s ps = Some s
by_rank step (k ∷ ks) s ps = option_and_then (λ t. by_rank step ks t ps) (each step s (at_rank k ps))
