-- Core Specification 3.0, Binary Format, Conventions and Values. A list holds the bytes that are left to read.
-- What is encoded at the front of it is a function of it: the value and the bytes behind, or nothing.
use Rattle.std.specs.Prelude.{ℕ, zero, suc, ℤ, pos, negsuc, ◌+◌, ◌-◌, ◌*◌, ◌^◌, ◌+ℤ◌, ◌-ℤ◌, ◌*ℤ◌, nat_lt, nat_le, ◌==◌, if◌then◌else◌, List, [], ◌∷◌, length, take, drop, Option, Some, None}
use Rattle.std.specs.Option.{option_map, option_and_then}
use Rattle.std.specs.Str.{is_utf8}

-- one byte
abbrev pub byte_at : List ℕ → Option (ℕ × List ℕ)
byte_at [] = None
byte_at (b ∷ bytes) = Some (b, bytes)

-- Unsigned LEB128 of so many bits. A byte below 128 is the last, and stands for itself. One from 128 on
-- has the low seven bits, and the bytes after it stand for the rest, in seven bits less.
abbrev pub unsigned_at : ℕ → List ℕ → Option (ℕ × List ℕ)
unsigned_at bits [] = None
unsigned_at bits (n ∷ more) =
    if nat_lt n (2 ^ 7) then (if nat_lt n (2 ^ bits) then Some (n, more) else None)
    else (if nat_lt 7 bits then option_map (λ m. (2 ^ 7 * m.0 + (n - 2 ^ 7), m.1)) (unsigned_at (bits - 7) more) else None)

-- Signed LEB128 of so many bits: a last byte below 64 stands for itself, one from 64 on for 128 less.
abbrev pub signed_at : ℕ → List ℕ → Option (ℤ × List ℕ)
signed_at bits [] = None
signed_at bits (n ∷ more) =
    if nat_lt n (2 ^ 6) then (if nat_lt n (2 ^ (bits - 1)) then Some (pos n, more) else None)
    else (if nat_lt n (2 ^ 7) then (if nat_le (2 ^ 7) (n + 2 ^ (bits - 1)) then Some (pos n -ℤ pos (2 ^ 7), more) else None)
    else (if nat_lt 7 bits then option_map (λ m. (pos (2 ^ 7) *ℤ m.0 +ℤ pos (n - 2 ^ 7), m.1)) (signed_at (bits - 7) more) else None))

-- an unsigned number of 32 or 64 bits
abbrev pub u32_at : List ℕ → Option (ℕ × List ℕ)
u32_at = unsigned_at 32

abbrev pub u64_at : List ℕ → Option (ℕ × List ℕ)
u64_at = unsigned_at 64

-- a number that is not negative
abbrev pub not_negative : ℤ → Option ℕ
not_negative (pos n) = Some n
not_negative (negsuc n) = None

-- a type index where a heap type may stand: a signed number of 33 bits that is not negative
abbrev pub s33_index_at : List ℕ → Option (ℕ × List ℕ)
s33_index_at bytes = option_and_then (λ n. option_map (λ x. (x, n.1)) (not_negative n.0)) (signed_at 33 bytes)

-- so many bytes
abbrev pub bytes_at : ℕ → List ℕ → Option (List ℕ × List ℕ)
bytes_at n bytes = if nat_lt (length bytes) n then None else Some (take n bytes, drop n bytes)

-- a size, and that many bytes
abbrev pub sized_at : List ℕ → Option (List ℕ × List ℕ)
sized_at bytes = option_and_then (λ n. bytes_at n.0 n.1) (u32_at bytes)

-- a name: a size, and that many bytes of text in UTF-8
abbrev pub name_at : List ℕ → Option (List ℕ × List ℕ)
name_at bytes = option_and_then (λ part. if is_utf8 part.0 then Some part else None) (sized_at bytes)

-- so many items, one after another
abbrev pub many_at : {V : Type 0} → (List ℕ → Option (V × List ℕ)) → ℕ → List ℕ → Option (List V × List ℕ)
many_at reads zero bytes = Some ([], bytes)
many_at reads (suc n) bytes = option_and_then (λ x. option_map (λ xs. (x.0 ∷ xs.0, xs.1)) (many_at reads n x.1)) (reads bytes)

-- a list: a count, and that many items
abbrev pub list_at : {V : Type 0} → (List ℕ → Option (V × List ℕ)) → List ℕ → Option (List V × List ℕ)
list_at reads bytes = option_and_then (λ n. many_at reads n.0 n.1) (u32_at bytes)

-- so many items, and nothing behind them
abbrev pub items_at : {V : Type 0} → (List ℕ → Option (V × List ℕ)) → ℕ → List ℕ → Option (List V)
items_at reads zero bytes = if length bytes == 0 then Some [] else None
items_at reads (suc n) bytes = option_and_then (λ x. option_map (λ xs. x.0 ∷ xs) (items_at reads n x.1)) (reads bytes)
