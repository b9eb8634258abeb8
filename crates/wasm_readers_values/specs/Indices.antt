-- What an index says, in its three forms.
use Rattle.std.specs.Prelude.{ℕ, ◌<◌, ◌+◌, ◌*◌, List, map, Option}
use Rattle.std.specs.declared.option.Option.TheVariants.{None, Some}
use Rattle.wasm_readers_values.specs.declared.indices.TheConstants.{MAX_IDS}
use Rattle.wasm_readers_values.specs.declared.indices.CoreTypeId.{CoreTypeId}
use Rattle.wasm_readers_values.specs.declared.indices.IndexForm.{IndexForm}
use Rattle.wasm_readers_values.specs.declared.indices.IndexForm.TheVariants as form
use Rattle.wasm_readers_values.specs.declared.indices.UnpackedIndex.{UnpackedIndex}
use Rattle.wasm_readers_values.specs.declared.indices.UnpackedIndex.TheVariants.{Module, RecGroup, Id}

-- the number that has to be below MAX_IDS for the index to be packed: none in a module's index, which is given as 0
abbrev pub number_of : UnpackedIndex → ℕ
number_of (Module i) = 0
number_of (RecGroup i) = i
number_of (Id id) = id.index

-- the index can be packed: a module's index always, a place in a group and an id where they are below MAX_IDS
abbrev pub Fits : UnpackedIndex → Type 0
Fits i = number_of i < MAX_IDS

-- the index is an id
abbrev pub IsId : UnpackedIndex → Type 0
IsId (Module i) = ⊥
IsId (RecGroup i) = ⊥
IsId (Id id) = Unit {0}

-- the module's type index
abbrev pub module_of : UnpackedIndex → Option ℕ
module_of (Module i) = Some i
module_of (RecGroup i) = None
module_of (Id id) = None

-- the place in the recursion group that the index stands in
abbrev pub place_of : UnpackedIndex → Option ℕ
place_of (Module i) = None
place_of (RecGroup i) = Some i
place_of (Id id) = None

-- the id
abbrev pub id_of : UnpackedIndex → Option CoreTypeId
id_of (Module i) = None
id_of (RecGroup i) = None
id_of (Id id) = Some id

-- the numbers of ids
abbrev pub numbers : List CoreTypeId → List ℕ
numbers ids = map (λ id. id.index) ids

-- the index with this number, in one of its forms
abbrev pub indexed : IndexForm → ℕ → UnpackedIndex
indexed form.Module n = Module n
indexed form.RecGroup n = RecGroup n
indexed form.Id n = Id (record { index = n })

-- the number that four bytes are, the highest first
abbrev pub number_in : ℕ → ℕ → ℕ → ℕ → ℕ
number_in highest high low lowest = highest * 16777216 + high * 65536 + low * 256 + lowest

-- each is a byte
pub record AreBytes (highest high low lowest : ℕ) : Type 0 where
  pub highest_fits : highest < 256
  pub high_fits : high < 256
  pub low_fits : low < 256
  pub lowest_fits : lowest < 256
