-- Core Specification 3.0, Binary Format, Modules: how the bytes of a module are divided into sections, and what
-- each section is made of as far as the division goes. The items inside a section are not looked at.
use Rattle.std.specs.Prelude.{◌≡◌, ℕ, ◌≤◌, ◌<◌, ◌+◌, ◌*◌, ◌^◌, Bool, true, List, [], ◌∷◌, ◌++◌, map, length, slice_index, Option, Some, None, nat_lt, ◌==◌, ◌&&◌, if◌then◌else◌}
use Rattle.std.specs.Option.{option_map, option_and_then}
use Rattle.wasm_spec.specs.Values.{byte_at, u32_at, sized_at, name_at, items_at}

-- What a module is made of, in the order of its bytes, without where it lies.
pub data Piece : Type 0 where
  -- the header: a version number, and the kind of what follows, 0 for a module and 1 for a component
  Version : ℕ → ℕ → Piece
  -- a custom section: its name, and the bytes behind it
  Custom : List ℕ → List ℕ → Piece
  -- a section of items: its id, how many items it says it has, and the bytes of them
  Counted : ℕ → ℕ → List ℕ → Piece
  -- the start section: a function's index
  Start : ℕ → Piece
  -- the data count section: how many data segments there are
  DataCount : ℕ → Piece
  -- the front of the code section: how many bodies follow, and in how many bytes
  CodeStart : ℕ → ℕ → Piece
  -- one body of the code section, without its size
  CodeEntry : List ℕ → Piece
  -- a section of an id that the standard does not know: the id, and its bytes
  Unknown : ℕ → List ℕ → Piece
  -- the end
  End : Piece

-- the first four bytes
abbrev pub magic : List ℕ
magic = 0x00 ∷ 0x61 ∷ 0x73 ∷ 0x6d ∷ []

-- a number of two bytes, the low one first
abbrev pub u16_at : List ℕ → Option (ℕ × List ℕ)
u16_at bytes = option_and_then (λ low. option_map (λ high. (low.0 + 2 ^ 8 * high.0, high.1)) (byte_at low.1)) (byte_at bytes)

-- one section: an id, a size and that many bytes; and what follows
abbrev pub section_at : List ℕ → Option ((ℕ × List ℕ) × List ℕ)
section_at [] = None
section_at (id ∷ bytes) = option_map (λ b. ((id, b.0), b.1)) (sized_at bytes)

-- the bytes are these whole sections, one after another to the end
abbrev pub Frames : List (ℕ × List ℕ) → List ℕ → Type 0
Frames [] bytes = bytes ≡ []
Frames (s ∷ ss) bytes = (rest : List ℕ) × (section_at bytes ≡ Some (s, rest)) × Frames ss rest

-- The place, from 1 to 13, of the sections of each id from 0 on: type, import, function, table, memory, tag, global,
-- export, start, element, data count, code, data. The custom section, which may stand anywhere, has the place 0.
abbrev pub places : List ℕ
places = 0 ∷ 1 ∷ 2 ∷ 3 ∷ 4 ∷ 5 ∷ 7 ∷ 8 ∷ 9 ∷ 10 ∷ 12 ∷ 13 ∷ 11 ∷ 6 ∷ []

-- the place of a section; 0 also for an unknown one
unfoldable pub place : ℕ → ℕ
place id = slice_index places id

-- the place is below those of all these sections that have one
abbrev pub Below : ℕ → List (ℕ × List ℕ) → Type 0
Below low [] = Unit {0}
Below low (s ∷ ss) = (0 < place s.0 → low < place s.0) × Below low ss

-- The sections that have a place stand in the order of their places, each at most once: each of them has a lower place
-- than those behind it.
abbrev pub InOrder : List (ℕ × List ℕ) → Type 0
InOrder [] = Unit {0}
InOrder (s ∷ ss) = Below (place s.0) ss × InOrder ss

-- one number and nothing else
abbrev pub number_of : List ℕ → Option ℕ
number_of body = option_and_then (λ n. if length n.1 == 0 then Some n.0 else None) (u32_at body)

-- a section other than the code section is one piece
unfoldable pub piece_of : ℕ → List ℕ → Option Piece
piece_of id body =
    if id == 0 then option_map (λ n. Custom n.0 n.1) (name_at body)
    else (if id == 8 then option_map Start (number_of body)
    else (if id == 12 then option_map DataCount (number_of body)
    else (if nat_lt id 14 then option_map (λ n. Counted id n.0 n.1) (u32_at body)
    else Some (Unknown id body))))

-- the code section: a count, and that many bodies, each after its size, with nothing behind the last
abbrev pub code_pieces : List ℕ → Option (List Piece)
code_pieces body = option_and_then (λ n. option_map (λ bs. CodeStart n.0 (length n.1) ∷ map CodeEntry bs) (items_at sized_at n.0 n.1)) (u32_at body)

-- the pieces of one section
abbrev pub pieces_of : ℕ × List ℕ → Option (List Piece)
pieces_of s = if s.0 == 10 then code_pieces s.1 else option_map (λ p. p ∷ []) (piece_of s.0 s.1)

-- the pieces of sections, in their order
abbrev pub all_pieces : List (ℕ × List ℕ) → Option (List Piece)
all_pieces [] = Some []
all_pieces (s ∷ ss) = option_and_then (λ ps. option_map (λ qs. ps ++ qs) (all_pieces ss)) (pieces_of s)

-- how many functions and data segments are declared, and how many there are
pub record Tally : Type 0 where
  pub functions : ℕ
  pub bodies : ℕ
  pub declared : Option ℕ
  pub segments : ℕ

abbrev pub nothing_yet : Tally
nothing_yet = record { functions = 0; bodies = 0; declared = None; segments = 0 }

-- the counts of the function section, the data section, the code section and the data count section
abbrev pub tally : Tally → Piece → Tally
tally t (Counted id n bytes) = if id == 3 then record t { functions = n } else (if id == 11 then record t { segments = n } else t)
tally t (CodeStart n size) = record t { bodies = n }
tally t (DataCount n) = record t { declared = Some n }
tally t p = t

abbrev pub tally_all : Tally → List Piece → Tally
tally_all t [] = t
tally_all t (p ∷ ps) = tally_all (tally t p) ps

abbrev pub is_none_or : Option ℕ → ℕ → Bool
is_none_or None n = true
is_none_or (Some m) n = m == n

-- as many bodies as functions, and as many segments as the data count says, where it is there
abbrev pub agrees : Tally → Bool
agrees t = t.functions == t.bodies && is_none_or t.declared t.segments

-- the bytes are a module that is made of these pieces
pub record IsFramed (bytes : List ℕ) (pieces : List Piece) : Type 0 where
  pub numbered : List ℕ
  pub number : ℕ
  pub kinded : List ℕ
  pub kind : ℕ
  pub rest : List ℕ
  pub sections : List (ℕ × List ℕ)
  pub others : List Piece
  -- first the magic
  pub begins : bytes ≡ magic ++ numbered
  -- then the version number
  pub has_number : u16_at numbered ≡ Some (number, kinded)
  -- then the kind, of a module or a component
  pub has_kind : u16_at kinded ≡ Some (kind, rest)
  pub known_kind : kind ≤ 1
  -- then whole sections to the end
  pub frames : Frames sections rest
  -- which stand in order, each at most once
  pub in_order : InOrder sections
  -- each of them with contents of its form, the bodies included
  pub made : all_pieces sections ≡ Some others
  -- between the header and the end
  pub all : pieces ≡ Version number kind ∷ (others ++ End ∷ [])
  -- and the counts of different sections agree
  pub agree : agrees (tally_all nothing_yet others) ≡ true
