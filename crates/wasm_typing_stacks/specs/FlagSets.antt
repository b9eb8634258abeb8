-- Flags that stand for a list of distinct numbers.
use Rattle.std.specs.Prelude.{◌≡◌, ℕ, Bool, true, false, List, [], ◌∷◌, slice_set}
use Rattle.std.specs.List.{slice_index_or}

-- the flag at a place, and false where there is none
abbrev pub is_marked : List Bool → ℕ → Bool
is_marked fs n = slice_index_or fs n false

-- each of these numbers has its flag set, and was marked once; and no other has
abbrev pub Stands : List Bool → List ℕ → Type 0
Stands fs [] = (n : ℕ) → is_marked fs n ≡ false
Stands fs (n ∷ ns) = (is_marked fs n ≡ true) × Stands (slice_set fs n false) ns

-- the same flags
abbrev pub SameMarks : List Bool → List Bool → Type 0
SameMarks fs gs = (n : ℕ) → is_marked gs n ≡ is_marked fs n
