-- A section: a count that keeps to the limit with what is there, and that many items, each read and then added to what those before it
-- left. Core Specification 3.0, Binary Format, Modules, Sections.
use Rattle.std.specs.Prelude.{ℕ, zero, suc, ◌+◌, ◌==◌, nat_le, if◌then◌else◌, List, length, Option, Some, None}
use Rattle.std.specs.Option.{option_map, option_and_then}

-- one item, read and then added, with the bytes behind it
abbrev pub read_one : {S V : Type 0} → (List ℕ → Option (V × List ℕ)) → (S → V → Option S) → S → List ℕ → Option (S × List ℕ)
read_one encoded add s bytes = option_and_then (λ x. option_map (λ t. (t, x.1)) (add s x.0)) (encoded bytes)

-- the same, where one more keeps to the limit with those that are there
abbrev pub read_one_of : {S V : Type 0} → (List ℕ → Option (V × List ℕ)) → (S → V → Option S) → ℕ → ℕ → S → List ℕ → Option (S × List ℕ)
read_one_of encoded add there most s bytes = if nat_le (there + 1) most then read_one encoded add s bytes else None

-- so many items, one after another, and nothing behind them
abbrev pub read_each : {S V : Type 0} → (List ℕ → Option (V × List ℕ)) → (S → V → Option S) → ℕ → List ℕ → S → Option S
read_each encoded add zero bytes s = if length bytes == 0 then Some s else None
read_each encoded add (suc n) bytes s = option_and_then (λ x. option_and_then (λ t. read_each encoded add n x.1 t) (add s x.0)) (encoded bytes)

-- a section
abbrev pub read_section : {S V : Type 0} → (List ℕ → Option (V × List ℕ)) → (S → V → Option S) → ℕ → ℕ → ℕ → List ℕ → S → Option S
read_section encoded add there most count bytes s = if nat_le (there + count) most then read_each encoded add count bytes s else None
