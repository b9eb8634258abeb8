-- Lists of groups, and the places of all their members.
use Rattle.std.specs.Prelude.{ℕ, ◌+◌, ◌<◌, ◌≤◌, List, length, take}
use Rattle.std.specs.List.{flat_map}

-- the members of all groups, one group behind another
abbrev pub all_in : {X : Type 0} → List (List X) → List X
all_in gs = flat_map (λ g. g) gs

-- the place at which the k-th group begins in the list of all members, where k is the number of groups the place behind them
abbrev pub first_of : {X : Type 0} → List (List X) → ℕ → ℕ
first_of gs k = length (all_in (take k gs))

-- the member at the place is one of the k-th group
pub record IsInGroup {X : Type 0} (gs : List (List X)) (k place : ℕ) : Type 0 where
  pub there : k < length gs
  pub from : first_of gs k ≤ place
  pub below : place < first_of gs (k + 1)
