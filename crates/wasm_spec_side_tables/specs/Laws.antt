-- The table that is made in one pass is the side table.
use Rattle.std.specs.Prelude.{◌≡◌, List, [], Some}
use Rattle.wasm_spec_steps.specs.WasmSpecRules.WasmSpec.MatchingTests.{World}
use Rattle.wasm_spec_steps.specs.Bodies.{Surroundings}
use Rattle.wasm_spec_steps.specs.Machine.{State}
use Rattle.wasm_spec_side_tables.specs.SideTables.{Placed, side_table}
use Rattle.wasm_spec_side_tables.specs.OnePassTables.{Built, resolved_each, begun, built}

-- Where instructions lead from a state to another and close all blocks, the table that was made is theirs.
abbrev pub TablesAreRight : (R : Type 0) → Type 0
TablesAreRight R =
    (W : World R) (B : Surroundings R) (s t : State R) (is : List Placed) (T : Built)
    → built W B s begun is ≡ Some (t, T) → T.nest.open_blocks ≡ [] → resolved_each T.nest.places T.entries ≡ side_table W B s is
