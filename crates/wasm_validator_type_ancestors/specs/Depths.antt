-- The numbers of proper ancestors that are kept of types, by their ids.
use Rattle.std.specs.Prelude.{ℕ, List, Option}
use Rattle.std.specs.Ordering.{nat_cmp}
use Rattle.std.specs.FinMap as map

-- the number that is kept of the id, if one is
abbrev pub depth_of : List (ℕ × ℕ) → ℕ → Option ℕ
depth_of depths id = map.find nat_cmp id depths

-- this number is kept of the id, and of each other one what was
abbrev pub with_depth : List (ℕ × ℕ) → ℕ → ℕ → List (ℕ × ℕ)
with_depth depths id n = map.put nat_cmp id n depths

-- what a map keeps, in the order of ids
abbrev pub in_order : List (ℕ × ℕ) → List (ℕ × ℕ)
in_order entries = map.entries (map.from_entries {R = nat_cmp} entries)
