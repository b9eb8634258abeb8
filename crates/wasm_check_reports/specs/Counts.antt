-- How many there are in an index space of a module. Core Specification 3.0, Structure, Modules, Indices.
use Rattle.std.specs.Prelude.{ℕ, ◌+◌, length, min}
use Rattle.wasm_validate_files.specs.WasmValidatorTypes.Spaces.{Spaces}
use Rattle.wasm_check_reports.specs.declared.imports.Imported.{Imported}
use Rattle.wasm_check_reports.specs.declared.items.Space.{Space}
use Rattle.wasm_check_reports.specs.declared.items.Space.TheVariants as of

abbrev pub count_in : Spaces → Space → ℕ
count_in spaces of.Types = length spaces.types
count_in spaces of.Functions = length spaces.functions
count_in spaces of.Tables = length spaces.tables
count_in spaces of.Memories = length spaces.memories
count_in spaces of.Globals = length spaces.globals
count_in spaces of.Tags = length spaces.tags
count_in spaces of.Elements = length spaces.elements

-- how many imports of it came so far
abbrev pub imported_in : Imported → Space → ℕ
imported_in before of.Types = 0
imported_in before of.Functions = before.functions
imported_in before of.Tables = before.tables
imported_in before of.Memories = before.memories
imported_in before of.Globals = before.globals
imported_in before of.Tags = before.tags
imported_in before of.Elements = 0

-- one more, as far as 32 bits count
abbrev pub one_more : ℕ → ℕ
one_more n = min (n + 1) 0xFFFF_FFFF

-- how many it has with one more of them
abbrev pub imported_with_one : Imported → Space → ℕ
imported_with_one before of.Types = 0
imported_with_one before of.Functions = one_more before.functions
imported_with_one before of.Tables = one_more before.tables
imported_with_one before of.Memories = one_more before.memories
imported_with_one before of.Globals = one_more before.globals
imported_with_one before of.Tags = one_more before.tags
imported_with_one before of.Elements = 0
