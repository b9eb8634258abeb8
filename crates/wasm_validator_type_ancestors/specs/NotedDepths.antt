-- The numbers of proper ancestors of types, each at the place of its id.
use Rattle.std.specs.Prelude.{ℕ, suc, ◌≡◌, cond, nat_eq, List, [], ◌∷◌, Option}
use Rattle.std.specs.List.{slice_index_or}
use Rattle.std.specs.declared.option.Option.TheVariants.{None, Some}

-- what is kept at a place, and nothing behind the last
abbrev pub kept_at : List (Option ℕ) → ℕ → Option ℕ
kept_at ds place = slice_index_or ds place None

-- the ids of which a number is kept, each with that number, where the first place is that of this id
abbrev pub kept_from : ℕ → List (Option ℕ) → List (ℕ × ℕ)
kept_from id [] = []
kept_from id (None ∷ ds) = kept_from (suc id) ds
kept_from id (Some n ∷ ds) = (id, n) ∷ kept_from (suc id) ds

abbrev pub kept_in : List (Option ℕ) → List (ℕ × ℕ)
kept_in ds = kept_from 0 ds

-- the same is kept at each place
abbrev pub SameKept : List (Option ℕ) → List (Option ℕ) → Type 0
SameKept old new = (place : ℕ) → kept_at new place ≡ kept_at old place

-- this number is kept at the place, and at each other one what was
abbrev pub IsNoted : List (Option ℕ) → List (Option ℕ) → ℕ → ℕ → Type 0
IsNoted old new place n = (other : ℕ) → kept_at new other ≡ cond (nat_eq place other) (Some n) (kept_at old other)
