-- What contracts see of lists that are borrowed from the bytes.
use Rattle.std.specs.Prelude.{◌≡◌, ℕ, zero, suc, List, [], ◌∷◌, Option, Some, None}
use Rattle.wasm_operators_plain.specs.WasmReaders.WasmReadersBytes.Reader.{rest}
use Rattle.wasm_operators_proposals.specs.declared.lists.Listed.{Listed}
use Rattle.wasm_operators_proposals.specs.declared.lists.ListedItems.{ListedItems}

-- an item, and what is read behind it
abbrev pub begun_by : {V : Type 0} → (List ℕ → List V) → Option (V × List ℕ) → List V
begun_by others None = []
begun_by others (Some x) = x.0 ∷ others x.1

-- the first items that are encoded one after another, at most so many
abbrev pub first_items : {V : Type 0} → (List ℕ → Option (V × List ℕ)) → ℕ → List ℕ → List V
first_items encoded zero bytes = []
first_items encoded (suc n) bytes = begun_by (λ more. first_items encoded n more) (encoded bytes)

-- the items of a borrowed list, all of which were read once
abbrev pub listed : {T V : Type 0} → (List ℕ → Option (V × List ℕ)) → Listed T → List V
listed encoded l = first_items encoded l.count (rest l.reader)

-- those that an iterator has still to give
abbrev pub items_left : {T V : Type 0} → (List ℕ → Option (V × List ℕ)) → ListedItems T → List V
items_left encoded s = first_items encoded s.count (rest s.reader)

-- it gives at most so many more
abbrev pub most_left : {T : Type 0} → ListedItems T → ℕ
most_left s = s.count

-- a call gives the first item of a list and leaves the others, or nothing where it is empty
abbrev pub GivesFront : {V : Type 0} → List V → Option V → List V → Type 0
GivesFront [] r after = (r ≡ None) × (after ≡ [])
GivesFront (x ∷ xs) r after = (r ≡ Some x) × (after ≡ xs)

-- the bytes behind what was read
abbrev pub behind : {V : Type 0} → Option (List V × List ℕ) → Option (List ℕ)
behind None = None
behind (Some x) = Some x.1
