-- What is told of a section that is refused, in words for any kind of items.
use Rattle.std.specs.Prelude.{ℕ, zero, suc, ◌≡◌, ◌≤◌, ◌+◌, ◌-◌, ◌⊎◌, nat_le, Bool, true, false, List, length, Option, Some, None, ⊤}
use Rattle.wasm_readers.specs.WasmReadersBytes.Reader.{IsMalformed}
use Rattle.wasm_readers_errors.specs.declared.error.Counted.{Counted}
use Rattle.wasm_readers_errors.specs.declared.error.Refusal.{Refusal}
use Rattle.wasm_validator_core.specs.LimitRefusals.{beyond_limit}
use Rattle.wasm_validator_core.specs.declared.error.Error.{Error}
use Rattle.wasm_validator_core.specs.declared.error.Error.TheVariants.{Refused, DuplicateExport, InFunction, OutOfMemory}

-- nothing
abbrev pub IsNone : {X : Type 0} → Option X → Type 0
IsNone o = o ≡ None

-- one or the other, by a test
abbrev pub Either : Bool → Type 0 → Type 0 → Type 0
Either true P Q = P
Either false P Q = Q

-- what was read
abbrev pub Read : {X : Type 0} → Type 0 → (X → Type 0) → Option X → Type 0
Read P Q None = P
Read P Q (Some x) = Q x

-- what was added
abbrev pub Added : {S : Type 0} → (S → Type 0) → Option S → Type 0
Added P None = ⊥
Added P (Some s) = P s

module _ {A : Type 0} where
  -- this is told of the content; want of memory says nothing of it
  abbrev pub OfContent : (Error A → Type 0) → Error A → Type 0
  OfContent P (Refused r) = P (Refused r)
  OfContent P (DuplicateExport name offset) = P (DuplicateExport name offset)
  OfContent P (InFunction index r) = P (InFunction index r)
  OfContent P OutOfMemory = ⊤

  -- bytes between these offsets don't follow the format, which no proposal lifts
  abbrev pub TellsFormat : ℕ → ℕ → Error A → Type 0
  TellsFormat from to (Refused r) = IsMalformed r.fault × (r.missing ≡ None) × (from ≤ r.offset) × (r.offset ≤ to)
  TellsFormat from to (DuplicateExport name offset) = ⊥
  TellsFormat from to (InFunction index r) = ⊥
  TellsFormat from to OutOfMemory = ⊤

  -- this refusal is told of an item at this offset
  abbrev pub TellsAt : ℕ → Option Refusal → Error A → Type 0
  TellsAt place told (Refused r) = (told ≡ Some r) × (r.offset ≡ place)
  TellsAt place told (DuplicateExport name offset) = ⊥
  TellsAt place told (InFunction index r) = ⊥
  TellsAt place told OutOfMemory = ⊤

  -- Items one after another, with this offset behind the last: one can't be read; or it leads nowhere, and that is told
  -- of it; or it is added, and an item behind it is refused.
  module _ {S V : Type 0} (encoded : List ℕ → Option (V × List ℕ)) (add : S → V → Option S) (nowhere : Option S → Type 0) (tells : ℕ → S → V → Error A → Type 0) (stop : ℕ) (e : Error A) where
    abbrev pub TellsEach : ℕ → List ℕ → S → Type 0
    TellsEach zero bytes s = TellsFormat (stop - length bytes) stop e
    TellsEach (suc n) bytes s =
        Read (TellsFormat (stop - length bytes) stop e)
        (λ x. (nowhere (add s x.0) × tells (stop - length bytes) s x.0 e) ⊎ Added (λ t. TellsEach n x.1 t) (add s x.0))
        (encoded bytes)

  -- a section: a count that is over its limit is told at its start, and anything else of its items
  abbrev pub TellsCount : Counted → ℕ → ℕ → ℕ → ℕ → Error A → Type 0 → Type 0
  TellsCount what there most start count e items = Either (nat_le (there + count) most) items (e ≡ Refused (beyond_limit what most (there + count) start))
