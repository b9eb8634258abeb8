-- Proposals by their names, over a table of them: rows of a name and bits.
use Rattle.std.specs.Prelude.{ℕ, ◌==◌, if◌then◌else◌, List, [], ◌∷◌}
use Rattle.std.specs.Option.{unwrap_or}
use Rattle.std.specs.Str.{is_utf8}
use Rattle.bitflags.specs.Sets.{Row, find_name}

-- the bits of the row with this name, or none; names are UTF-8
abbrev pub bits_named : List Row → List ℕ → ℕ
bits_named table name = if is_utf8 name then unwrap_or (find_name table name) 0 else 0

-- the name of the first row with these bits, or the empty one
abbrev pub name_in : List Row → ℕ → List ℕ
name_in [] bits = []
name_in (row ∷ rows) bits = if row.1 == bits then row.0 else name_in rows bits
