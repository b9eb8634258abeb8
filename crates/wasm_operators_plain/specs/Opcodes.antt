-- Tables of operators by their opcode.
use Rattle.std.specs.Prelude.{◌≡◌, ◌↔◌, ℕ, ◌-◌, nat_lt, if◌then◌else◌, List, Option, Some, None, slice_get}

-- the entry of a number in a table that counts up from a first one
abbrev pub counted_from : {X : Type 0} → ℕ → List X → ℕ → Option X
counted_from first table n = if nat_lt n first then None else slice_get table (n - first)

-- a number stands for an operator exactly where it is that operator's own
abbrev pub IsTableOf : {X : Type 0} → (X → ℕ) → (ℕ → Option X) → Type 0
IsTableOf {X} number operator = (n : ℕ) (op : X) → (operator n ≡ Some op) ↔ (number op ≡ n)
