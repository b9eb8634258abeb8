-- What contracts see of payloads and of the parser.
use Rattle.std.specs.Prelude.{ℕ, ◌≡◌, ◌≢◌, ◌⊎◌, List, Option, Some, None}
use Rattle.std.specs.declared.result.Result.{Result}
use Rattle.std.specs.declared.result.Result.TheVariants.{Ok, Err}
use Rattle.wasm_items.specs.WasmReaders.WasmReadersBytes.Reader.{rest}
use Rattle.wasm_items.specs.WasmReaders.SectionsSeen.{count_of, bytes_of}
use Rattle.wasm_items.specs.WasmReaders.WasmReadersBytes.declared.binary_reader.BinaryReader.{BinaryReader}
use Rattle.wasm_items.specs.WasmReaders.WasmReadersErrors.declared.error.Refusal.{Refusal}
use Rattle.wasm_parser.specs.declared.custom_section.CustomSectionReader.{CustomSectionReader}
use Rattle.wasm_parser.specs.declared.function_body.FunctionBody.{FunctionBody}
use Rattle.wasm_parser.specs.declared.payload.Encoding.{Encoding}
use Rattle.wasm_parser.specs.declared.payload.Encoding.TheVariants as encodings
use Rattle.wasm_parser.specs.declared.payload.Payload.{Payload}
use Rattle.wasm_parser.specs.declared.payload.Payload.TheVariants as payloads
use Rattle.wasm_parser.specs.declared.parser.Parser.{Parser}
use Rattle.wasm_parser.specs.declared.parser.ParseAll.{ParseAll}
use Rattle.wasm_parser.specs.declared.parser.Progress.{Progress}
use Rattle.wasm_parser.specs.declared.parser.Progress.TheVariants as stages
use Rattle.wasm_spec.specs.Framing.{Piece, Version, Custom, Counted, Start, DataCount, CodeStart, CodeEntry, Unknown, End}
use Rattle.wasm_parser.specs.Machine.{Stage, State, at_header, at_sections, ended, failed, next_of}

-- the kind in the header that stands for an encoding
abbrev pub kind_of : Encoding → ℕ
kind_of encodings.Module = 0
kind_of encodings.Component = 1

-- the bytes of a custom section's name, and those behind it
abbrev pub name_of : CustomSectionReader → List ℕ
name_of s = s.name.now

abbrev pub data_of : CustomSectionReader → List ℕ
data_of s = rest s.reader

-- the reader of a custom section, behind the name
abbrev pub data_reader : CustomSectionReader → BinaryReader
data_reader s = s.reader

-- the bytes of a function's body
abbrev pub body_of : FunctionBody → List ℕ
body_of b = rest b.reader

-- the reader of a function's body
abbrev pub body_reader : FunctionBody → BinaryReader
body_reader b = b.reader

-- a payload, without where it lies
abbrev pub seen : {A : Type 0} → Payload A → Piece
seen (payloads.Version num encoding range) = Version num (kind_of encoding)
seen (payloads.TypeSection s) = Counted 1 (count_of s) (bytes_of s)
seen (payloads.ImportSection s) = Counted 2 (count_of s) (bytes_of s)
seen (payloads.FunctionSection s) = Counted 3 (count_of s) (bytes_of s)
seen (payloads.TableSection s) = Counted 4 (count_of s) (bytes_of s)
seen (payloads.MemorySection s) = Counted 5 (count_of s) (bytes_of s)
seen (payloads.TagSection s) = Counted 13 (count_of s) (bytes_of s)
seen (payloads.GlobalSection s) = Counted 6 (count_of s) (bytes_of s)
seen (payloads.ExportSection s) = Counted 7 (count_of s) (bytes_of s)
seen (payloads.StartSection func range) = Start func
seen (payloads.ElementSection s) = Counted 9 (count_of s) (bytes_of s)
seen (payloads.DataCountSection count range) = DataCount count
seen (payloads.DataSection s) = Counted 11 (count_of s) (bytes_of s)
seen (payloads.CodeSectionStart count range size) = CodeStart count size
seen (payloads.CodeSectionEntry b) = CodeEntry (body_of b)
seen (payloads.CustomSection s) = Custom (name_of s) (data_of s)
seen (payloads.UnknownSection id contents range) = Unknown id contents.now
seen (payloads.End offset) = End

-- the offset, from the start of the input, at which a parser begins
abbrev pub offset_of : {A : Type 0} → Parser A → ℕ
offset_of p = p.offset

abbrev pub stage_of : Progress → Stage
stage_of stages.Header = at_header
stage_of stages.Sections = at_sections
stage_of stages.Ended = ended
stage_of (stages.Failed refusal) = failed

-- where the parsing stands
abbrev pub state : {A : Type 0} → ParseAll A → State
state p = record {
  stage = stage_of p.progress;
  bytes = rest p.reader;
  place = p.place;
  code = rest p.code;
  left = p.bodies_left;
  counts = record { functions = p.functions; bodies = p.bodies; declared = p.declared; segments = p.segments };
}

-- What one turn of the iterator gives: a payload; a refusal, after which nothing comes; or nothing, since the end was
-- given or something was refused.
abbrev pub NextGives : {A : Type 0} → State → Option (Result (Payload A) Refusal) → State → Type 0
NextGives s None t = ((next_of s ≡ Some None) ⊎ (s.stage ≡ failed)) × (t ≡ s)
NextGives s (Some (Ok p)) t = next_of s ≡ Some (Some (seen p, t))
NextGives s (Some (Err r)) t = (next_of s ≡ None) × (s.stage ≢ failed) × (t.stage ≡ failed)
