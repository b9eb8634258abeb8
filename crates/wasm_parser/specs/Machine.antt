-- The framing of a module, read from the front: one step for each piece.
use Rattle.std.specs.Prelude.{◌≡◌, ℕ, ◌-◌, Bool, true, List, [], ◌∷◌, ◌++◌, length, Option, Some, None, ◌==◌, nat_eq, nat_lt, nat_le, ◌||◌, ◌+◌, if◌then◌else◌}
use Rattle.std.specs.Option.{option_map, option_and_then}
use Rattle.std.specs.Cmp.Lexicographic.{pointwise}
use Rattle.wasm_spec.specs.Values.{u32_at, bytes_at, sized_at}
use Rattle.wasm_spec.specs.Framing.{Piece, Version, Counted, CodeStart, CodeEntry, End, magic, u16_at, section_at, place, piece_of, Tally, nothing_yet, tally, is_none_or, agrees}

-- what is next: the header, something behind it, nothing since the end was given, or nothing since bytes were refused
pub data Stage : Type 0 where
  at_header : Stage
  at_sections : Stage
  ended : Stage
  failed : Stage

pub record State : Type 0 where
  pub stage : Stage
  -- what is left behind the last section
  pub bytes : List ℕ
  -- the place of the last section that has one
  pub place : ℕ
  -- what is left of the code section, and how many bodies
  pub code : List ℕ
  pub left : ℕ
  pub counts : Tally

abbrev pub start : List ℕ → State
start bytes = record { stage = at_header; bytes = bytes; place = 0; code = []; left = 0; counts = nothing_yet }

-- the header of a module: the magic, the version 1 and the kind 0
abbrev pub core_header : List ℕ
core_header = magic ++ (1 ∷ 0 ∷ []) ++ (0 ∷ 0 ∷ [])

-- the version of a kind that is known
abbrev pub version_of : State → ℕ → ℕ × List ℕ → Option (Piece × State)
version_of s number kind = if nat_le kind.0 1 then Some (Version number kind.0, record s { stage = at_sections; bytes = kind.1 }) else None

abbrev pub numbers_of : State → List ℕ → Option (Piece × State)
numbers_of s bytes = option_and_then (λ number. option_and_then (version_of s number.0) (u16_at number.1)) (u16_at bytes)

abbrev pub header_of : State → Option (Piece × State)
header_of s = option_and_then (λ m. if pointwise nat_eq m.0 magic then numbers_of s m.1 else None) (bytes_at 4 s.bytes)

abbrev pub entry_of : State → Option (Piece × State)
entry_of s = option_map (λ b. (CodeEntry b.0, record s { code = b.1; left = s.left - 1 })) (sized_at s.code)

-- may a section of this id come after the place low, and which place is the last then
abbrev pub may_follow : ℕ → ℕ → Bool
may_follow low id = place id == 0 || nat_lt low (place id)

abbrev pub last_place : ℕ → ℕ → ℕ
last_place low id = if place id == 0 then low else place id

-- the state behind a section of this id that is this piece
abbrev pub behind : State → ℕ → List ℕ → Piece → State
behind s id rest p = record s { bytes = rest; place = last_place s.place id; counts = tally s.counts p }

-- the state behind the front of the code section, with this count and these bytes of bodies
abbrev pub opened : State → List ℕ → ℕ × List ℕ → State
opened s rest n = record s { bytes = rest; place = last_place s.place 10; code = n.1; left = n.0; counts = tally s.counts (CodeStart n.0 (length n.1)) }

-- what a section of this id and these contents is first, with this behind it
abbrev pub contents_of : State → ℕ → List ℕ → List ℕ → Option (Piece × State)
contents_of s id body rest =
    if id == 10 then option_map (λ n. (CodeStart n.0 (length n.1), opened s rest n)) (u32_at body)
    else option_map (λ p. (p, behind s id rest p)) (piece_of id body)

-- a section as it is alone
abbrev pub alone_of : State → Option (Piece × State)
alone_of s = option_and_then (λ x. if may_follow s.place x.0.0 then contents_of s x.0.0 x.0.1 x.1 else None) (section_at s.bytes)

-- the counts agree as far as they are known behind this piece
abbrev pub settled : Tally → Piece → Bool
settled t (CodeStart n size) = t.functions == t.bodies
settled t (Counted id n bytes) = if id == 11 then is_none_or t.declared t.segments else true
settled t p = true

abbrev pub section_of : State → Option (Piece × State)
section_of s = option_and_then (λ x. if settled x.1.counts x.0 then Some x else None) (alone_of s)

abbrev pub ending_of : State → Option (Piece × State)
ending_of s = if agrees s.counts then Some (End, record s { stage = ended }) else None

-- the next piece behind the header
unfoldable pub part_of : State → Option (Piece × State)
part_of s =
    if s.left == 0
    then (if length s.code == 0
    then (if length s.bytes == 0 then ending_of s else section_of s)
    else None)
    else entry_of s

-- Nothing where the bytes are refused, and else the next piece, if the end has not been given.
abbrev pub next_at : Stage → State → Option (Option (Piece × State))
next_at at_header s = option_map Some (header_of s)
next_at at_sections s = option_map Some (part_of s)
next_at ended s = Some None
next_at failed s = None

abbrev pub next_of : State → Option (Option (Piece × State))
next_of s = next_at s.stage s

-- all pieces, the end included
abbrev pub Run : State → List Piece → Type 0
Run s [] = next_of s ≡ Some None
Run s (p ∷ ps) = (t : State) × (next_of s ≡ Some (Some (p, t))) × Run t ps

-- the first pieces, and the state behind them
abbrev pub Given : State → List Piece → State → Type 0
Given s [] t = s ≡ t
Given s (p ∷ ps) t = (u : State) × (next_of s ≡ Some (Some (p, u))) × Given u ps t

-- how many pieces can still come, at most
abbrev pub most_at : Stage → State → ℕ
most_at at_header s = length s.bytes + length s.code + 1
most_at at_sections s = length s.bytes + length s.code + 1
most_at ended s = 0
most_at failed s = 0

abbrev pub most_left : State → ℕ
most_left s = most_at s.stage s
