-- Locals as words.
use Rattle.std.proofs.Common.{◌≡◌, ℕ, ◌+◌, ◌^◌, ◌%◌, ◌<◌, ◌≤◌, true, false, arith}
use Rattle.std.specs.Prelude.{nat_lt}
use Rattle.std.proofs.lemmas.Bool.Decides.{nat_tests}

pub type_of_set : (b : ℕ) → b < 2 ^ 38 → b % 2 ^ 38 ≡ b
type_of_set b h = omega arith

pub type_of_unset : (b : ℕ) → b < 2 ^ 38 → (b + 2 ^ 38) % 2 ^ 38 ≡ b
type_of_unset b h = omega arith

pub is_below : (b : ℕ) → b < 2 ^ 38 → nat_lt b (2 ^ 38) ≡ true
is_below b h = grind (arith, nat_tests)

pub is_above : (b : ℕ) → 2 ^ 38 ≤ b → nat_lt b (2 ^ 38) ≡ false
is_above b h = grind (arith, nat_tests)

pub unset_above : (b : ℕ) → nat_lt (b + 2 ^ 38) (2 ^ 38) ≡ false
unset_above b = is_above (b + 2 ^ 38) (omega arith)

pub ruleset words = (type_of_set, type_of_unset, is_below, is_above, unset_above)
