-- The functions that a module declares, and their bodies. Core Specification 3.0, Binary Format, Modules.
use Rattle.std.specs.Prelude.{◌≡◌, ℕ, Bool, List, length, Option}
use Rattle.wasm_readers_errors.specs.WasmSpec.Framing.{Piece, IsFramed}
use Rattle.wasm_spec_rules.specs.Parts.{Expression, Parts, HasParts}

-- A module whose bytes are divided as they must be has a body for each function that it declares, and no other.
abbrev pub BodiesAreAsManyAsFunctions : Type 0
BodiesAreAsManyAsFunctions =
    (compact : Bool) (expression_at : List ℕ → Option (Expression × List ℕ)) (bytes : List ℕ) (pieces : List Piece) (f : IsFramed bytes pieces) (parts : Parts)
    → HasParts compact expression_at f.others parts → length parts.bodies ≡ length parts.functions
