-- What contracts see of the checks of items.
use Rattle.std.specs.Prelude.{◌≡◌, ℕ, List, Option, Some, None, Result, Ok, Err, ⊤}
use Rattle.wasm_readers_errors.specs.declared.error.Error.{Error}
use Rattle.wasm_readers_errors.specs.declared.error.Error.TheVariants.{Refused, OutOfMemory}

-- A refusal of the item that the bytes begin with: where the content is refused they don't begin with such an item, and where memory is
-- refused nothing is said.
abbrev pub Refuses : Error → Option (List ℕ) → Type 0
Refuses (Refused r) o = o ≡ None
Refuses OutOfMemory o = ⊤

-- what is behind the item that the bytes begin with, or its refusal
abbrev pub GoesPast : {X : Type 0} → Result X Error → Option (List ℕ) → List ℕ → Type 0
GoesPast (Ok x) o more = o ≡ Some more
GoesPast (Err e) o more = Refuses e o
