-- What a reader tells of content that it refuses.
use Rattle.std.specs.Prelude.{ℕ, ◌≡◌, ◌==◌, ◌||◌, List, [], ◌∷◌, Bool, true, false, is_some, ⊤}
use Rattle.wasm_readers_bytes.specs.Reader.{RefusedFrom, integer_refusal, place_of_next}
use Rattle.wasm_readers_bytes.specs.WasmSpec.BinaryTypes.{abstract_heap_from}
use Rattle.wasm_readers_bytes.specs.WasmReadersErrors.Refusals.{plain}
use Rattle.wasm_readers_bytes.specs.WasmReadersErrors.declared.error.Malformed as declared
use Rattle.wasm_readers_bytes.specs.WasmReadersErrors.declared.error.Fault.TheVariants.{Malformed}
use Rattle.wasm_readers_bytes.specs.declared.binary_reader.BinaryReader.{BinaryReader}
use Rattle.wasm_readers_bytes.specs.WasmReadersErrors.declared.error.Integer.{Integer}
use Rattle.wasm_readers_bytes.specs.WasmReadersErrors.declared.error.Refusal.{Refusal}
use Rattle.wasm_readers_bytes.specs.WasmReadersErrors.declared.error.Error.{Error}
use Rattle.wasm_readers_bytes.specs.WasmReadersErrors.declared.error.Error.TheVariants.{Refused, OutOfMemory}

-- which refusals a reader may tell from where it stands
abbrev pub Telling : Type 1
Telling = BinaryReader → Refusal → Type 0

-- the refusal is one of these, unless memory was refused
abbrev pub Tells : Telling → BinaryReader → Error → Type 0
Tells refuses r (Refused x) = refuses r x
Tells refuses r OutOfMemory = ⊤

-- the bytes encode no such number, of so many bits
abbrev pub NumberRefused : Integer → ℕ → Telling
NumberRefused integer bits r x = RefusedFrom r x × (x ≡ integer_refusal integer bits r)

-- a reference type begins with this byte, or the bytes end
abbrev pub begins_reference : List ℕ → Bool
begins_reference [] = true
begins_reference (b ∷ bytes) = b == 0x63 || (b == 0x64 || (b == 0x65 || is_some (abstract_heap_from b)))

-- Where the first byte is refused, this is told of it.
abbrev pub IsToldOfFirst : declared.Malformed → Bool → BinaryReader → Refusal → Type 0
IsToldOfFirst fault true r x = ⊤
IsToldOfFirst fault false r x = x ≡ plain (Malformed fault) (place_of_next r)
