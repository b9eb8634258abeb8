-- What contracts see of a section and of its items that are left.
use Rattle.std.specs.Prelude.{◌≡◌, ◌≤◌, ◌+◌, ℕ, zero, suc, List, Bool, length, Option, Some, None, ⊤}
use Rattle.std.specs.declared.result.Result.{Result}
use Rattle.std.specs.declared.result.Result.TheVariants.{Ok, Err}
use Rattle.wasm_readers.specs.declared.section_limited.SectionLimited.{SectionLimited}
use Rattle.wasm_readers.specs.declared.section_limited.SectionItems.{SectionItems}
use Rattle.wasm_readers_bytes.specs.Reader.{input, position_in, original, rest, SameInput, FailedFrom}
use Rattle.wasm_readers_bytes.specs.declared.binary_reader.BinaryReader.{BinaryReader}
use Rattle.wasm_readers_bytes.specs.WasmReadersErrors.declared.error.Error.{Error}
use Rattle.wasm_readers_bytes.specs.WasmReadersErrors.declared.error.Error.TheVariants.{Refused}
use Rattle.wasm_readers_bytes.specs.WasmReadersErrors.declared.error.Fault.TheVariants.{Malformed}
use Rattle.wasm_readers_bytes.specs.WasmReadersErrors.declared.error.Malformed.TheVariants.{SectionSize}
use Rattle.wasm_readers_bytes.specs.WasmReadersErrors.Refusals.{plain}
use Rattle.wasm_readers.specs.Refusals.{Telling, Tells}

-- the number of items that a section says it has
abbrev pub count_of : {T A : Type 0} → SectionLimited T A → ℕ
count_of s = s.count

-- the bytes behind the count
abbrev pub bytes_of : {T A : Type 0} → SectionLimited T A → List ℕ
bytes_of s = rest s.reader

-- the offset in the whole input of a section's first byte, which is that of its count
abbrev pub section_start : {T A : Type 0} → SectionLimited T A → ℕ
section_start s = original s.reader

-- the offset of the byte behind a section
abbrev pub section_end : {T A : Type 0} → SectionLimited T A → ℕ
section_end s = original s.reader + length (input s.reader)

-- the offset of the first item
abbrev pub first_item_at : {T A : Type 0} → SectionLimited T A → ℕ
first_item_at s = original s.reader + position_in s.reader

-- how many items are left to read
abbrev pub items_left : {T A : Type 0} → SectionItems T A → ℕ
items_left s = s.left

-- the bytes that are left to read
abbrev pub items_rest : {T A : Type 0} → SectionItems T A → List ℕ
items_rest s = rest s.reader

-- whether the iterator has ended
abbrev pub items_done : {T A : Type 0} → SectionItems T A → Bool
items_done s = s.done

-- the offset in the whole input of what is left to read
abbrev pub next_item_at : {T A : Type 0} → SectionItems T A → ℕ
next_item_at s = original s.reader + position_in s.reader

-- the offset of the byte behind the section
abbrev pub items_end : {T A : Type 0} → SectionItems T A → ℕ
items_end s = original s.reader + length (input s.reader)

-- items of the same section, read as far or further
abbrev pub SameSection : {T A : Type 0} → SectionItems T A → SectionItems T A → Type 0
SameSection old new = SameInput old.reader new.reader × (next_item_at old ≤ next_item_at new)

-- a refusal for the format, at an offset from the next item to the section's end, unless memory was refused
abbrev pub ItemsFailedFrom : {T A : Type 0} → SectionItems T A → Error → Type 0
ItemsFailedFrom s error = FailedFrom s.reader error

-- Behind the last item the refusal is of the section's size, at the first byte that is left; before it, it is what the
-- reader of an item tells.
abbrev pub tells_of : Telling → ℕ → BinaryReader → Error → Type 0
tells_of refuses zero r error = error ≡ Refused (plain (Malformed SectionSize) (original r + position_in r))
tells_of refuses (suc n) r error = Tells refuses r error

abbrev pub ItemTells : {T A : Type 0} → Telling → SectionItems T A → Error → Type 0
ItemTells refuses s error = tells_of refuses s.left s.reader error

-- Where no item is given, as many are left as before; and at the end the reader stays where it stands.
abbrev pub TakesNothing : {T A I : Type 0} → SectionItems T A → Option (Result (ℕ × I) Error) → SectionItems T A → Type 0
TakesNothing old None new = (items_left new ≡ items_left old) × (new.reader ≡ old.reader)
TakesNothing old (Some (Ok x)) new = ⊤
TakesNothing old (Some (Err e)) new = items_left new ≡ items_left old
