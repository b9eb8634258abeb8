-- The numbers of ids that an iterator has left.
use Rattle.std.specs.Prelude.{ℕ, zero, suc, ◌+◌, ◌-◌, List, [], ◌∷◌}
use Rattle.wasm_validator_type_groups.specs.declared.elements.RecGroupElements.{RecGroupElements}
use Rattle.wasm_validator_type_groups.specs.Groups.{first_of}

-- so many numbers, from this one on
abbrev pub numbers_from : ℕ → ℕ → List ℕ
numbers_from n zero = []
numbers_from n (suc k) = n ∷ numbers_from (n + 1) k

abbrev pub ids_left : RecGroupElements → List ℕ
ids_left e = numbers_from e.next (e.end - e.next)

-- the numbers of the ids of the k-th group
abbrev pub ids_of_group : {X : Type 0} → List (List X) → ℕ → List ℕ
ids_of_group gs k = numbers_from (first_of gs k) (first_of gs (k + 1) - first_of gs k)
