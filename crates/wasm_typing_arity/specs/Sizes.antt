-- How great a count may be.
use Rattle.std.specs.Prelude.{ℕ, ◌<◌, ◌^◌}

-- no greater than the length of a list in memory may be
abbrev pub IsSmall : ℕ → Type 0
IsSmall n = n < 2 ^ 64

abbrev pub AreSmall : ℕ × ℕ → Type 0
AreSmall p = IsSmall p.0 × IsSmall p.1
