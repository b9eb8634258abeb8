-- The bytes of a number.
use Rattle.std.specs.Prelude.{ℕ, ◌≡◌, ◌<◌, ◌/◌, ◌%◌, ◌^◌}
use Rattle.std.proofs.Common.{ap, arith, subst, sym}
use Rattle.wasm_readers_values.specs.Indices.{number_of, number_in, indexed, AreBytes}
use Rattle.wasm_readers_values.specs.declared.indices.IndexForm.{IndexForm}

pub number_of_bytes : (n : ℕ) → n < 2 ^ 32 → number_in (n / 16777216) (n / 65536 % 256) (n / 256 % 256) (n % 256) ≡ n
number_of_bytes n h = omega (arith, h)

pub bytes_of_number : (n : ℕ) → n < 2 ^ 32 → AreBytes (n / 16777216) (n / 65536 % 256) (n / 256 % 256) (n % 256)
bytes_of_number n h = record { highest_fits = omega (arith, h); high_fits = omega arith; low_fits = omega arith; lowest_fits = omega arith }

pub same_index : (f : IndexForm) (n : ℕ) → n < 2 ^ 32 → indexed f (number_in (n / 16777216) (n / 65536 % 256) (n / 256 % 256) (n % 256)) ≡ indexed f n
same_index f n h = ap (indexed f) (number_of_bytes n h)

pub index_fits : (f : IndexForm) (n m : ℕ) → n < 2 ^ 32 → number_of (indexed f n) < m → number_of (indexed f (number_in (n / 16777216) (n / 65536 % 256) (n / 256 % 256) (n % 256))) < m
index_fits f n m h l = subst (λ k. number_of (indexed f k) < m) (sym (number_of_bytes n h)) l

pub ruleset packed_numbers = (same_index, bytes_of_number, index_fits)
