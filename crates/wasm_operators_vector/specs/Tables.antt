-- Tables of operators by their numbers, where some numbers have none.
use Rattle.std.specs.Prelude.{◌≡◌, ◌↔◌, ℕ, List, Option, Some, slice_get}
use Rattle.std.specs.Option.{option_and_then}

-- the entry of a number in a table with gaps
abbrev pub entry : {X : Type 0} → List (Option X) → ℕ → Option X
entry table n = option_and_then (λ x. x) (slice_get table n)

-- a number stands for an operator exactly where it is that operator's own
abbrev pub IsTableOf : {X : Type 0} → (X → ℕ) → (ℕ → Option X) → Type 0
IsTableOf {X} number operator = (n : ℕ) (op : X) → (operator n ≡ Some op) ↔ (number op ≡ n)
