-- Where the custom sections and the bodies of a module lie, in offsets from its first byte. Core Specification 3.0, Binary Format, Modules, Custom
-- Section and Code Section.
use Rattle.std.specs.Prelude.{ℕ, ◌≡◌, ◌-◌, ◌+◌, ◌++◌, List, [], ◌∷◌, length, Some, None, ⊤}
use Rattle.wasm_spec.specs.Framing.{Piece, Custom, CodeEntry, IsFramed}
use Rattle.wasm_parser.specs.Machine.{State, start, next_of}
use Rattle.wasm_readers_bytes.specs.Reader.{original, position_in}
use Rattle.wasm_parser.specs.Places.{section_size, reader_end}
use Rattle.wasm_parser.specs.PayloadViews.{name_of, data_of, data_reader, body_reader}
use Rattle.wasm_parser.specs.declared.payload.Payload.{Payload}
use Rattle.wasm_parser.specs.declared.payload.Payload.TheVariants as payloads
use Rattle.wasm_parser_ranges.specs.declared.bodies.Body.{Body}
use Rattle.wasm_parser_ranges.specs.declared.custom_sections.CustomSection.{CustomSection}
use Rattle.wasm_parser_ranges.specs.declared.not_found.NotFound.{NotFound}
use Rattle.wasm_parser_ranges.specs.declared.not_found.NotFound.TheVariants.{NoModule, NoName, OutOfMemory}

-- A custom section whose contents lie between these offsets: this name, behind its length, and these bytes behind the name.
abbrev pub custom_section : ℕ → ℕ → List ℕ → List ℕ → CustomSection
custom_section first end name contents = record {
  size = 48;
  start = first;
  name_start = end - length contents - length name;
  name_length = length name;
  data_start = end - length contents;
  end = end;
}

-- a body of these bytes up to this offset
abbrev pub body_before : ℕ → List ℕ → Body
body_before end bytes = record { size = 24; start = end - length bytes; end = end }

-- What a piece is that stands between these states of the machine that reads an input of so many bytes from its front: a custom section, which ends
-- where the bytes begin that are left, or none.
abbrev pub custom_between : ℕ → State → Piece → State → List CustomSection
custom_between total s (Custom name contents) t =
    let end = total - length t.bytes in custom_section (end - section_size s.bytes) end name contents ∷ []
custom_between total s p t = []

-- The same of a body, behind which the rest of the code section is left, and the bytes behind that.
abbrev pub body_between : ℕ → State → Piece → State → List Body
body_between total s (CodeEntry bytes) t = body_before (total - (length t.code + length t.bytes)) bytes ∷ []
body_between total s p t = []

-- All pieces from a state of that machine on are these, and what is told of them, one after another, are those.
abbrev pub TellsAll : {X : Type 0} → (State → Piece → State → List X) → State → List Piece → List X → Type 0
TellsAll tell s [] xs = (next_of s ≡ Some None) × (xs ≡ [])
TellsAll {X} tell s (p ∷ ps) xs = (t : State) × (next_of s ≡ Some (Some (p, t))) × ((more : List X) × (xs ≡ tell s p t ++ more) × TellsAll tell t ps more)

-- The bytes are divided into sections as a module is, and these are its custom sections, in their order.
pub record AreCustomSections (bytes : List ℕ) (found : List CustomSection) : Type 0 where
  pub pieces : List Piece
  pub framed : IsFramed bytes pieces
  pub told : TellsAll (custom_between (length bytes)) (start bytes) pieces found

-- The same of its bodies.
pub record AreBodies (bytes : List ℕ) (found : List Body) : Type 0 where
  pub pieces : List Piece
  pub framed : IsFramed bytes pieces
  pub told : TellsAll (body_between (length bytes)) (start bytes) pieces found

-- they aren't divided so
abbrev pub HasNoFraming : List ℕ → Type 0
HasNoFraming bytes = (pieces : List Piece) → IsFramed bytes pieces → ⊥

-- that is why there are none, unless memory for them was refused
abbrev pub Refuses : NotFound → List ℕ → Type 0
Refuses NoModule bytes = HasNoFraming bytes
Refuses NoName bytes = ⊥
Refuses OutOfMemory bytes = ⊤

-- what a payload is by where it lies
abbrev pub customs_in : {A : Type 0} → Payload A → List CustomSection
customs_in (payloads.CustomSection s) = custom_section (original (data_reader s)) (reader_end (data_reader s)) (name_of s) (data_of s) ∷ []
customs_in p = []

abbrev pub bodies_in : {A : Type 0} → Payload A → List Body
bodies_in (payloads.CodeSectionEntry b) =
    record { size = 24; start = original (body_reader b) + position_in (body_reader b); end = reader_end (body_reader b) } ∷ []
bodies_in p = []
