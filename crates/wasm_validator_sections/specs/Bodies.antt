-- The bodies of a module's functions. Core Specification 3.0, Binary Format, Modules, Code Section.
use Rattle.std.specs.Prelude.{ℕ, ◌-◌, length}
use Rattle.wasm_validator_types.specs.Spaces.{Spaces}

-- as many as functions are defined: imported ones are the first, and have none
abbrev pub expected_bodies : Spaces → ℕ
expected_bodies s = length s.functions - length s.imported_functions
