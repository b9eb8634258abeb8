-- What the refusal of an item says, and where it stands.
use Rattle.std.specs.Prelude.{◌≡◌, ℕ, ◌≤◌, ◌+◌, length, Option, None, ⊤}
use Rattle.wasm_readers.specs.WasmReadersBytes.Reader.{input, original, position_in}
use Rattle.wasm_readers.specs.WasmReadersBytes.declared.binary_reader.BinaryReader.{BinaryReader}
use Rattle.wasm_validator_core.specs.declared.error.Error.{Error}
use Rattle.wasm_validator_core.specs.declared.error.Error.TheVariants.{Refused, DuplicateExport, InFunction, OutOfMemory}

-- A refusal where this is nothing; and where memory is refused nothing is said.
abbrev pub Refuses : {A X : Type 0} → Error A → Option X → Type 0
Refuses (Refused r) o = o ≡ None
Refuses (DuplicateExport name offset) o = o ≡ None
Refuses (InFunction index r) o = ⊥
Refuses OutOfMemory o = ⊤

-- the content is refused at an offset from the first to the second of these, or memory is
abbrev pub StandsBetween : {A : Type 0} → ℕ → ℕ → Error A → Type 0
StandsBetween from to (Refused r) = (from ≤ r.offset) × (r.offset ≤ to)
StandsBetween from to (DuplicateExport name offset) = (from ≤ offset) × (offset ≤ to)
StandsBetween from to (InFunction index r) = (from ≤ r.offset) × (r.offset ≤ to)
StandsBetween from to OutOfMemory = ⊤

-- from where this reader stands to the end of its part of the input
abbrev pub StandsBehind : {A : Type 0} → BinaryReader → Error A → Type 0
StandsBehind r e = StandsBetween (original r + position_in r) (original r + length (input r)) e
