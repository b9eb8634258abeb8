-- The numbers that are left.
use Rattle.std.proofs.Common.{◌≡◌, refl, ap, ℕ, zero, suc, ◌+◌, ◌-◌, ◌<◌, ◌≤◌, [], ◌∷◌, length, arith}
use Rattle.wasm_validator_type_groups.specs.Elements.{numbers_from}

pub length_numbers : (n k : ℕ) → length (numbers_from n k) ≡ k
length_numbers n zero = refl
length_numbers n (suc k) = ap suc (length_numbers (n + 1) k)

pub none_left : (n e : ℕ) → e ≤ n → numbers_from n (e - n) ≡ []
none_left n e h = let z : e - n ≡ 0 = omega (arith, h) in ap (numbers_from n) z

pub one_left : (n e : ℕ) → n < e → numbers_from n (e - n) ≡ n ∷ numbers_from (n + 1) (e - (n + 1))
one_left n e h = let s : e - n ≡ suc (e - (n + 1)) = omega (arith, h) in ap (numbers_from n) s
