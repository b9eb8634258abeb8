-- One import behind any lists of a module: when it may be added, and the lists with it. Core Specification 3.0,
-- Validation, Modules, Imports.
use Rattle.std.specs.Prelude.{ℕ, ◌≡◌, ◌≤◌, ◌<◌, ◌+◌, ◌↔◌, ◌++◌, List, map, length, Some}
use Rattle.wasm_spec.specs.Syntax.{Extern}
use Rattle.wasm_spec.specs.BinaryModules.{Import, map_import}
use Rattle.wasm_spec.specs.Features.{Features, canonical}
use Rattle.wasm_spec.specs.Trees.{DefType}
use Rattle.wasm_spec_rules.specs.Contexts.{exact_in}
use Rattle.wasm_spec_rules.specs.IndexSpaces.{functions_in, tables_in, memories_in, globals_in, tags_in}
use Rattle.wasm_spec_rules.specs.Limits.{most_functions, most_tables, most_memories, most_globals, most_tags, size_limit}
use Rattle.wasm_spec_rules.specs.LinkRules.{IsValidImport, extern_size}
use Rattle.wasm_validator_core.specs.WasmValidatorChecks.Laws.{Stand}
use Rattle.wasm_validator_core.specs.WasmValidatorCanonical.Sections.{written}
use Rattle.wasm_validator_types.specs.Spaces.{Spaces, with_import}
use Rattle.wasm_validator_core.specs.Items.{add_import}
use Rattle.wasm_laws_core.specs.ModuleParts.{entity_in, listed_table, listed_global}

-- so many of each kind, with an external type, keep their limits
pub record HasRoom (F : Features) (functions tables memories globals tags : ℕ) (x : Extern ℕ) : Type 0 where
  pub few_functions : functions + length (functions_in x) ≤ most_functions
  pub few_tables : tables + length (tables_in x) ≤ most_tables F
  pub few_memories : memories + length (memories_in x) ≤ most_memories F
  pub few_globals : globals + length (globals_in x) ≤ most_globals
  pub few_tags : tags + length (tags_in x) ≤ most_tags

-- the lists of a module keep their limits
pub record KeepsLimits (F : Features) (s : Spaces) : Type 0 where
  pub few_functions : length s.functions ≤ most_functions
  pub few_tables : length s.tables ≤ most_tables F
  pub few_memories : length s.memories ≤ most_memories F
  pub few_globals : length s.globals ≤ most_globals
  pub few_tags : length s.tags ≤ most_tags

-- an external type keeps them with these lists
abbrev pub RoomIn : Features → Spaces → Extern ℕ → Type 0
RoomIn F s x = HasRoom F (length s.functions) (length s.tables) (length s.memories) (length s.globals) (length s.tags) x

-- an import is valid, and fits behind these lists
abbrev pub FitsImport : Features → List DefType → Spaces → Import ℕ → Type 0
FitsImport F types s i = IsValidImport F types i × (RoomIn F s i.ty × (s.size + extern_size types i.ty < size_limit))

-- an external type at the end of its index space
abbrev pub with_kind : Spaces → Extern ℕ → Spaces
with_kind s x = record s {
  functions = s.functions ++ functions_in x;
  imported_functions = s.imported_functions ++ exact_in x;
  tables = s.tables ++ map (listed_table s.types) (tables_in x);
  memories = s.memories ++ memories_in x;
  globals = s.globals ++ map (listed_global s.types) (globals_in x);
  imported_globals = s.imported_globals + length (globals_in x);
  tags = s.tags ++ tags_in x;
}

-- and an import under its names, and in the effective size
abbrev pub with_entry : List ℕ → List DefType → Spaces → Import ℕ → Spaces
with_entry ids types s i = record (with_kind s i.ty) { imports = with_import s.imports i.module_name i.item_name (entity_in ids i.ty); size = s.size + extern_size types i.ty }

-- An import is accepted behind any lists that keep their limits exactly where it is valid and fits, and then these lists
-- have it behind.
abbrev pub OneImportIsAdded : Type 0
OneImportIsAdded =
    (F : Features) (us : List DefType) (ids : List ℕ) (types : List DefType) → Stand (canonical F) us ids types
    → (s : Spaces) → s.types ≡ ids → KeepsLimits F s
    → (i : Import ℕ) (t : Spaces) → (add_import F us s (map_import written i) ≡ Some t) ↔ (FitsImport F types s i × (with_entry ids types s i ≡ t))
