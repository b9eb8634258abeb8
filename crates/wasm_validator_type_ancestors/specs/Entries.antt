-- Of each id the number of its proper ancestors, and the list of them.
use Rattle.std.specs.Prelude.{ℕ, zero, suc, ◌≡◌, ◌+◌, ◌<◌, ◌≤◌, if◌then◌else◌, nat_lt, List, map, length, slice_get}
use Rattle.std.specs.declared.option.Option.{Option}
use Rattle.std.specs.declared.option.Option.TheVariants.{None, Some}
use Rattle.wasm_validator_type_ancestors.specs.declared.entries.Entry.{Entry}

-- the supertype of a type with so many proper ancestors: the last of its list, or what is kept in place of one
abbrev pub super_by : List ℕ → ℕ → ℕ → Option ℕ
super_by ids start zero = None
super_by ids start (suc n) = if nat_lt n 63 then slice_get ids (start + n) else Some start

abbrev pub super_in : List ℕ → Entry → Option ℕ
super_in ids e = super_by ids e.start e.count

abbrev pub supers_of : List ℕ → List Entry → List (Option ℕ)
supers_of ids entries = map (super_in ids) entries

-- the same id stands at both places
pub record SameAt (ids : List ℕ) (place other : ℕ) : Type 0 where
  pub id : ℕ
  pub here : slice_get ids place ≡ Some id
  pub there : slice_get ids other ≡ Some id

-- the entry of a type that extends the parent: one ancestor more, and the parent's list is the front of its own, where it has one
pub record IsOneMore (ids : List ℕ) (parent : ℕ) (entry e : Entry) : Type 0 where
  pub count : e.count ≡ entry.count + 1
  pub last : entry.count < 63 → slice_get ids (e.start + entry.count) ≡ Some parent
  pub front : entry.count < 63 → (j : ℕ) → j < entry.count → SameAt ids (e.start + j) (entry.start + j)
  pub linked : 63 ≤ entry.count → e.start ≡ parent

-- the type extends an earlier one
pub record Extends (entries : List Entry) (ids : List ℕ) (id : ℕ) (e : Entry) : Type 0 where
  pub parent : ℕ
  pub entry : Entry
  pub there : slice_get entries parent ≡ Some entry
  pub before : parent < id
  pub more : IsOneMore ids parent entry e

-- so does each type that has proper ancestors
pub record AreEntries (entries : List Entry) (ids : List ℕ) : Type 0 where
  pub each : (id : ℕ) (e : Entry) → slice_get entries id ≡ Some e → 0 < e.count → Extends entries ids id e

-- the entry of the next type, which extends this one, if it extends one
pub record IsNext (entries : List Entry) (ids : List ℕ) (supertype : Option ℕ) (e : Entry) : Type 0 where
  pub extends : 0 < e.count → Extends entries ids (length entries) e
  pub says : super_in ids e ≡ supertype

-- what was in the store stays in it
pub record IsKept (old new : List ℕ) : Type 0 where
  pub each : (k id : ℕ) → slice_get old k ≡ Some id → slice_get new k ≡ Some id

-- so many ids from this place on, once more from the other place on
pub record AreCopied (ids : List ℕ) (from to count : ℕ) : Type 0 where
  pub each : (j : ℕ) → j < count → SameAt ids (to + j) (from + j)
