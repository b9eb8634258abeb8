-- What contracts see of an error, and the words for calls that may be refused memory.
use Rattle.std.specs.Prelude.{ℕ, ◌≡◌, List, Option, Some, None, ⊤}
use Rattle.std.specs.declared.result.Result.{Result}
use Rattle.std.specs.declared.result.Result.TheVariants.{Ok, Err}
use Rattle.wasm_readers_errors.specs.declared.error.Error.{Error}
use Rattle.wasm_readers_errors.specs.declared.error.Error.TheVariants.{Refused, OutOfMemory}
use Rattle.wasm_readers_features.specs.declared.features.WasmFeatures.{WasmFeatures}

-- memory was refused
abbrev pub IsMemory : Error → Type 0
IsMemory (Refused r) = ⊥
IsMemory OutOfMemory = ⊤

-- the content was refused
abbrev pub IsContent : Error → Type 0
IsContent (Refused r) = ⊤
IsContent OutOfMemory = ⊥

abbrev pub offset_of : Error → ℕ
offset_of (Refused r) = r.offset
offset_of OutOfMemory = 0

abbrev pub missing_of : Error → Option WasmFeatures
missing_of (Refused r) = r.missing
missing_of OutOfMemory = None

-- The call gives what is encoded, seen by `view`, and the bytes behind it; where it refuses the content
-- nothing of the kind is encoded, and where it is refused memory nothing is said.
abbrev pub Reads : {X Y : Type 0} → (X → Y) → Result X Error → Option (Y × List ℕ) → List ℕ → Type 0
Reads view (Ok x) encoded rest = encoded ≡ Some (view x, rest)
Reads view (Err (Refused r)) encoded rest = encoded ≡ None
Reads view (Err OutOfMemory) encoded rest = ⊤

-- the same of a call that gives the whole
abbrev pub Gives : {X Y : Type 0} → (X → Y) → Result X Error → Option Y → Type 0
Gives view (Ok x) o = o ≡ Some (view x)
Gives view (Err (Refused r)) o = o ≡ None
Gives view (Err OutOfMemory) o = ⊤
