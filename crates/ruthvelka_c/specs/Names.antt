-- The name of a proposal in a caller's array.
use Rattle.std.specs.Prelude.{ℕ, ◌≡◌, List, length}
use Rattle.bitflags.specs.Sets.{Row}
use Rattle.wasm_validator_handles.specs.Names.{name_in}
use Rattle.wasm_validator_handles.specs.Arrays.{AreWritten}

-- the name of these bits stands in the array, as far as there is room, and has this length
pub record HasName (table : List Row) (bits told : ℕ) (old new : List ℕ) : Type 0 where
  pub size : told ≡ length (name_in table bits)
  pub written : AreWritten (name_in table bits) old new
