-- What the tests of items say of a module whose types stand in a list under these ids: each rule holds of the module's
-- types exactly where its test says so of those of the list.
use Rattle.std.specs.Prelude.{ℕ, ◌≡◌, Bool, List, is_some}
use Rattle.std.specs.Bool.{Decides}
use Rattle.std.specs.List.{AllZip}
use Rattle.wasm_spec.specs.Syntax.{Table, Memory, Global, Extern, map_table, map_global, map_extern}
use Rattle.wasm_spec.specs.BinarySections.{TableEntry}
use Rattle.wasm_spec.specs.Features.{Features}
use Rattle.wasm_spec.specs.Trees.{DefType}
use Rattle.wasm_validator_resources.specs.WasmSpecRules.IndexSpaces.{IsFunctionType}
use Rattle.wasm_validator_resources.specs.WasmSpecRules.ItemRules.{IsValidTable, IsValidTableEntry, IsValidMemory, IsValidTag, IsValidGlobal}
use Rattle.wasm_validator_resources.specs.WasmSpecRules.LinkRules.{IsValidExtern}
use Rattle.wasm_validator_resources.specs.WasmSpecRules.Parts.{Expression}
use Rattle.wasm_validator_canonical.specs.Groups.{types_at}
use Rattle.wasm_validator_canonical.specs.Sections.{written, StandsFor}
use Rattle.wasm_validator_checks.specs.ModuleTypes.{arity_at}
use Rattle.wasm_validator_checks.specs.Items.{is_function, is_valid_table, is_valid_defined_table, is_valid_memory, is_valid_tag, is_valid_global, is_importable}

-- the types of a module stand in a list under these ids
abbrev pub Stand : Bool → List DefType → List ℕ → List DefType → Type 0
Stand is_canonical us ids types = AllZip (StandsFor is_canonical us) ids types

abbrev pub FunctionsAreDecided : Type 0
FunctionsAreDecided = (c : Bool) (us : List DefType) (ids : List ℕ) (types : List DefType) → Stand c us ids types → (x : ℕ) → Decides (is_function (types_at us ids) x) (IsFunctionType types x)

abbrev pub TablesAreDecided : Type 0
TablesAreDecided =
    (F : Features) (c : Bool) (us : List DefType) (ids : List ℕ) (types : List DefType) → Stand c us ids types
    → (t : Table ℕ) → Decides (is_valid_table F (types_at us ids) (map_table written t)) (IsValidTable F types t)

abbrev pub DefinedTablesAreDecided : Type 0
DefinedTablesAreDecided =
    (F : Features) (c : Bool) (us : List DefType) (ids : List ℕ) (types : List DefType) → Stand c us ids types
    → (t : TableEntry Expression ℕ) → Decides (is_valid_defined_table F (types_at us ids) (map_table written t.ty) (is_some t.init)) (IsValidTableEntry F types t)

abbrev pub MemoriesAreDecided : Type 0
MemoriesAreDecided = (F : Features) (m : Memory) → Decides (is_valid_memory F m) (IsValidMemory F m)

abbrev pub TagsAreDecided : Type 0
TagsAreDecided =
    (F : Features) (c : Bool) (us : List DefType) (ids : List ℕ) (types : List DefType) → Stand c us ids types
    → (x : ℕ) → Decides (is_valid_tag F (types_at us ids) x) (IsValidTag F types x)

abbrev pub GlobalsAreDecided : Type 0
GlobalsAreDecided =
    (F : Features) (c : Bool) (us : List DefType) (ids : List ℕ) (types : List DefType) → Stand c us ids types
    → (g : Global ℕ) → Decides (is_valid_global F (types_at us ids) (map_global written g)) (IsValidGlobal F types g)

abbrev pub ExternsAreDecided : Type 0
ExternsAreDecided =
    (F : Features) (c : Bool) (us : List DefType) (ids : List ℕ) (types : List DefType) → Stand c us ids types
    → (x : Extern ℕ) → Decides (is_importable F (types_at us ids) (map_extern written x)) (IsValidExtern F types x)

-- and a type has as many parameters and results in the list as in the module
abbrev pub AritiesAreKept : Type 0
AritiesAreKept =
    (c : Bool) (us : List DefType) (ids : List ℕ) (types : List DefType) → Stand c us ids types → (x : ℕ) → arity_at (types_at us ids) x ≡ arity_at types x
