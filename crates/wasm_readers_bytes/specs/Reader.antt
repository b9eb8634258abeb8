-- What contracts see of a reader.
use Rattle.std.specs.Prelude.{◌≡◌, ◌≤◌, ◌+◌, ◌-◌, ◌^◌, ℕ, nat_lt, if◌then◌else◌, List, [], ◌∷◌, length, drop, Option, Some, None, ⊤}
use Rattle.wasm_readers_errors.specs.declared.error.Fault.{Fault}
use Rattle.wasm_readers_errors.specs.declared.error.Fault.TheVariants.{Malformed}
use Rattle.wasm_readers_errors.specs.declared.error.Malformed as declared
use Rattle.wasm_readers_errors.specs.declared.error.Malformed.TheVariants.{UnexpectedEnd, IntegerTooLong, IntegerTooLarge, NotUtf8, HeapType}
use Rattle.wasm_readers_errors.specs.declared.error.Integer.{Integer}
use Rattle.wasm_readers_errors.specs.declared.error.Integer.TheVariants.{S33}
use Rattle.wasm_readers_errors.specs.declared.error.Refusal.{Refusal}
use Rattle.wasm_readers_errors.specs.Refusals.{plain}
use Rattle.wasm_readers_errors.specs.declared.error.Error.{Error}
use Rattle.wasm_readers_errors.specs.declared.error.Error.TheVariants.{Refused, OutOfMemory}
use Rattle.wasm_readers_bytes.specs.declared.binary_reader.BinaryReader.{BinaryReader}

-- all bytes of its part of the input
abbrev pub input : BinaryReader → List ℕ
input r = r.buffer.now

-- how many of them have been read
abbrev pub position_in : BinaryReader → ℕ
position_in r = r.position

-- the offset in the whole input where its part begins
abbrev pub original : BinaryReader → ℕ
original r = r.original_offset

-- what is left to read
abbrev pub rest : BinaryReader → List ℕ
rest r = drop r.position r.buffer.now

-- the same part of the input, however far it is read
abbrev pub SameInput : BinaryReader → BinaryReader → Type 0
SameInput old new = (input new ≡ input old) × (original new ≡ original old)

-- the bytes don't follow the format
abbrev pub IsMalformed : Fault → Type 0
IsMalformed (Malformed m) = ⊤
IsMalformed f = ⊥

-- A refusal for the format, which no proposal lifts, at an offset from where this reader stands to the end of its part.
abbrev pub RefusedFrom : BinaryReader → Refusal → Type 0
RefusedFrom r refusal =
    IsMalformed refusal.fault × (refusal.missing ≡ None) × (original r + position_in r ≤ refusal.offset) × (refusal.offset ≤ original r + length (input r))

-- the same, unless memory was refused
abbrev pub FailedFrom : BinaryReader → Error → Type 0
FailedFrom r (Refused refusal) = RefusedFrom r refusal
FailedFrom r OutOfMemory = ⊤

-- the offset in the whole input of the next byte
abbrev pub place_of_next : BinaryReader → ℕ
place_of_next r = original r + position_in r

-- What is told of a byte that is refused: this, or that there is none.
abbrev pub byte_fault : declared.Malformed → List ℕ → declared.Malformed
byte_fault fault [] = UnexpectedEnd
byte_fault fault (byte ∷ bytes) = fault

-- What is told of bytes that encode no number of so many bits, be it signed or not: the first of their end, a last byte with
-- bits beyond the width, and a byte that is one too many.
abbrev pub number_fault : declared.Malformed → declared.Malformed → ℕ → List ℕ → declared.Malformed
number_fault large long bits [] = UnexpectedEnd
number_fault large long bits (n ∷ more) =
    if nat_lt n (2 ^ 7) then large
    else (if nat_lt 7 bits then number_fault large long (bits - 7) more else long)

-- How many bytes stand before the one for which that is told.
abbrev pub before_wrong : ℕ → List ℕ → ℕ
before_wrong bits [] = 0
before_wrong bits (n ∷ more) =
    if nat_lt n (2 ^ 7) then 0
    else (if nat_lt 7 bits then before_wrong (bits - 7) more + 1 else 0)

-- what is told of bytes that encode no such number
abbrev pub integer_fault : Integer → ℕ → List ℕ → declared.Malformed
integer_fault integer bits bytes = number_fault (IntegerTooLarge integer) (IntegerTooLong integer) bits bytes

-- the refusal of what is next, which encodes no such number, at the byte that is wrong
abbrev pub integer_refusal : Integer → ℕ → BinaryReader → Refusal
integer_refusal integer bits r =
    plain (Malformed (integer_fault integer bits (rest r))) (place_of_next r + before_wrong bits (rest r))

-- The refusal where a type index is wanted as a signed number: one that is there is negative, at its first byte. Bits beyond the
-- width are told as a byte too many.
abbrev pub index_refusal : {N : Type 0} → BinaryReader → Option N → Refusal
index_refusal r None =
    plain (Malformed (number_fault (IntegerTooLong S33) (IntegerTooLong S33) 33 (rest r))) (place_of_next r + before_wrong 33 (rest r))
index_refusal r (Some n) = plain (Malformed HeapType) (place_of_next r)

-- What is told of a size and its bytes: where the size is there, the bytes end.
abbrev pub sized_fault : {N : Type 0} → declared.Malformed → Option N → declared.Malformed
sized_fault of_size None = of_size
sized_fault of_size (Some n) = UnexpectedEnd

-- What is told of a name: where its bytes are there, they are no text.
abbrev pub name_fault : {N : Type 0} → declared.Malformed → Option N → declared.Malformed
name_fault of_bytes None = of_bytes
name_fault of_bytes (Some n) = NotUtf8

-- Where a size and its bytes are refused, by a reader that stood at the first and stands at the second: at the byte of the size that is
-- wrong, and where the size is there behind it.
abbrev pub sized_place : {N : Type 0} → BinaryReader → BinaryReader → Option N → ℕ
sized_place old new None = place_of_next old + before_wrong 32 (rest old)
sized_place old new (Some n) = place_of_next new

-- Where a name is refused: where its bytes are there, at the last of them, before which the reader stands behind them.
abbrev pub name_place : {N : Type 0} → ℕ → BinaryReader → Option N → ℕ
name_place of_bytes new None = of_bytes
name_place of_bytes new (Some n) = place_of_next new - 1

-- Where a size and its bytes are refused: the reader is as it was where the size is refused, and else it is behind the size.
abbrev pub IsAfterSize : BinaryReader → Option (ℕ × List ℕ) → BinaryReader → Type 0
IsAfterSize old None new = new ≡ old
IsAfterSize old (Some p) new = rest new ≡ p.1

-- Where a name is refused: the same, and where its bytes are there and are no text, the reader is behind them.
abbrev pub IsAfterName : BinaryReader → Option (ℕ × List ℕ) → Option (List ℕ × List ℕ) → BinaryReader → Type 0
IsAfterName old size None new = IsAfterSize old size new
IsAfterName old size (Some p) new = rest new ≡ p.1
