-- Where payloads lie, in offsets from the start of the input.
use Rattle.std.specs.Prelude.{ℕ, ◌+◌, ◌==◌, if◌then◌else◌, List, length, Option, Some, None, ◌≡◌, ◌<◌, ◌≤◌, IfSome}
use Rattle.wasm_spec.specs.Values.{sized_at}
use Rattle.wasm_items.specs.WasmReaders.WasmReadersBytes.Reader.{input, original, position_in, rest, SameInput, IsMalformed}
use Rattle.wasm_items.specs.WasmReaders.WasmReadersErrors.declared.error.Refusal.{Refusal}
use Rattle.wasm_items.specs.WasmReaders.SectionsSeen.{section_start, section_end}
use Rattle.wasm_items.specs.WasmReaders.WasmReadersBytes.declared.binary_reader.BinaryReader.{BinaryReader}
use Rattle.wasm_parser.specs.declared.payload.Payload.{Payload}
use Rattle.wasm_parser.specs.declared.payload.Payload.TheVariants as payloads
use Rattle.wasm_parser.specs.declared.parser.ParseAll.{ParseAll}
use Rattle.wasm_parser.specs.declared.parser.Progress.{Progress}
use Rattle.wasm_parser.specs.declared.parser.Progress.TheVariants as stages
use Rattle.wasm_spec.specs.Framing.{section_at}
use Rattle.wasm_parser.specs.Machine.{Stage, State, at_header, at_sections, ended, failed}
use Rattle.wasm_parser.specs.PayloadViews.{data_reader, body_reader}

-- the offset of the byte behind a reader's last
abbrev pub reader_end : BinaryReader → ℕ
reader_end r = original r + length (input r)

-- the second reader reads bytes of the first
abbrev pub IsPartOf : BinaryReader → BinaryReader → Type 0
IsPartOf whole part = (original whole ≤ original part) × (reader_end part ≤ reader_end whole)

-- the offset of a payload's first byte
abbrev pub starts_at : {A : Type 0} → Payload A → ℕ
starts_at (payloads.Version num encoding range) = range.start
starts_at (payloads.TypeSection s) = section_start s
starts_at (payloads.ImportSection s) = section_start s
starts_at (payloads.FunctionSection s) = section_start s
starts_at (payloads.TableSection s) = section_start s
starts_at (payloads.MemorySection s) = section_start s
starts_at (payloads.TagSection s) = section_start s
starts_at (payloads.GlobalSection s) = section_start s
starts_at (payloads.ExportSection s) = section_start s
starts_at (payloads.StartSection func range) = range.start
starts_at (payloads.ElementSection s) = section_start s
starts_at (payloads.DataCountSection count range) = range.start
starts_at (payloads.DataSection s) = section_start s
starts_at (payloads.CodeSectionStart count range size) = range.start
starts_at (payloads.CodeSectionEntry b) = original (body_reader b) + position_in (body_reader b)
starts_at (payloads.CustomSection s) = original (data_reader s)
starts_at (payloads.UnknownSection id contents range) = range.start
starts_at (payloads.End offset) = offset

-- the offset of the byte behind a payload; for the front of the code section, behind the whole of it
abbrev pub ends_at : {A : Type 0} → Payload A → ℕ
ends_at (payloads.Version num encoding range) = range.end
ends_at (payloads.TypeSection s) = section_end s
ends_at (payloads.ImportSection s) = section_end s
ends_at (payloads.FunctionSection s) = section_end s
ends_at (payloads.TableSection s) = section_end s
ends_at (payloads.MemorySection s) = section_end s
ends_at (payloads.TagSection s) = section_end s
ends_at (payloads.GlobalSection s) = section_end s
ends_at (payloads.ExportSection s) = section_end s
ends_at (payloads.StartSection func range) = range.end
ends_at (payloads.ElementSection s) = section_end s
ends_at (payloads.DataCountSection count range) = range.end
ends_at (payloads.DataSection s) = section_end s
ends_at (payloads.CodeSectionStart count range size) = range.end
ends_at (payloads.CodeSectionEntry b) = reader_end (body_reader b)
ends_at (payloads.CustomSection s) = reader_end (data_reader s)
ends_at (payloads.UnknownSection id contents range) = range.end
ends_at (payloads.End offset) = offset

-- the offset of the first byte behind the last section, or of the header
abbrev pub stands_at : {A : Type 0} → ParseAll A → ℕ
stands_at p = original p.reader + position_in p.reader

-- the offset of the byte behind the whole input
abbrev pub input_end : {A : Type 0} → ParseAll A → ℕ
input_end p = reader_end p.reader

-- the parser reads the same input
abbrev pub OfSameInput : {A : Type 0} → ParseAll A → ParseAll A → Type 0
OfSameInput old new = SameInput old.reader new.reader

-- a refusal at an offset of the input, or behind its last byte
abbrev pub IsInInput : {A : Type 0} → ParseAll A → Refusal → Type 0
IsInInput p refusal = (original p.reader ≤ refusal.offset) × (refusal.offset ≤ input_end p)

-- what is left of the code section is of the input
abbrev pub CodeIsWithin : {A : Type 0} → ParseAll A → Type 0
CodeIsWithin p = IsPartOf p.reader p.code

-- the offset of the first byte behind the last body of the code section, or of the first body
abbrev pub stands_in_code : {A : Type 0} → ParseAll A → ℕ
stands_in_code p = original p.code + position_in p.code

-- what is left of the code section lies right before where the parser stands
abbrev pub CodeIsLast : {A : Type 0} → ParseAll A → Type 0
CodeIsLast p = stands_in_code p + length (rest p.code) ≡ stands_at p

-- the bodies that are left lie there
abbrev pub BodiesAreLast : {A : Type 0} → ParseAll A → Type 0
BodiesAreLast p = 0 < p.bodies_left → CodeIsLast p

-- how long the contents are, if there are any
abbrev section_length : Option ((ℕ × List ℕ) × List ℕ) → ℕ
section_length None = 0
section_length (Some s) = length s.0.1

abbrev body_length : Option (List ℕ × List ℕ) → ℕ
body_length None = 0
body_length (Some b) = length b.0

-- how long the contents of the section at the front of these bytes are
abbrev pub section_size : List ℕ → ℕ
section_size bytes = section_length (section_at bytes)

-- how long the body at the front of these bytes is
abbrev pub body_size : List ℕ → ℕ
body_size bytes = body_length (sized_at bytes)

-- how long the next payload behind the header is
abbrev pub part_size : State → ℕ
part_size s = if s.left == 0 then (if length s.bytes == 0 then 0 else section_size s.bytes) else body_size s.code

-- how long the next payload is; the header takes eight bytes
abbrev pub next_size : Stage → State → ℕ
next_size at_header s = 8
next_size at_sections s = part_size s
next_size ended s = 0
next_size failed s = 0

-- where the parser stands behind a payload that came at this state
abbrev pub part_end : {A : Type 0} → State → ParseAll A → ℕ
part_end s p = if s.left == 0 then stands_at p else stands_in_code p

abbrev pub next_end : {A : Type 0} → Stage → State → ParseAll A → ℕ
next_end at_header s p = stands_at p
next_end at_sections s p = part_end s p
next_end ended s p = stands_at p
next_end failed s p = stands_at p

-- a refusal for the format, which no proposal lifts
abbrev pub IsFormat : Refusal → Type 0
IsFormat refusal = IsMalformed refusal.fault × (refusal.missing ≡ None)

abbrev refusal_in : Progress → Option Refusal
refusal_in stages.Header = None
refusal_in stages.Sections = None
refusal_in stages.Ended = None
refusal_in (stages.Failed refusal) = Some refusal

-- the refusal that ended the parsing, if one did
abbrev pub refused_with : {A : Type 0} → ParseAll A → Option Refusal
refused_with p = refusal_in p.progress

-- the parser reads nothing but its input, and a refusal that ended the parsing stands there
abbrev pub ReadsInput : {A : Type 0} → ParseAll A → Type 0
ReadsInput p = CodeIsWithin p × IfSome (refused_with p) (IsInInput p)
