-- The items of a module's lists, added one after another, and when they keep their rules. Core Specification 3.0,
-- Validation, Modules.
use Rattle.std.specs.Prelude.{ℕ, ◌≡◌, ◌≤◌, ◌<◌, List, [], map, length, Option, None}
use Rattle.std.specs.Option.{option_and_then}
use Rattle.std.specs.List.{All}
use Rattle.wasm_spec.specs.Syntax.{Memory, map_table}
use Rattle.wasm_spec.specs.BinaryModules.{Import, Export, map_import}
use Rattle.wasm_spec.specs.BinarySections.{TableEntry}
use Rattle.wasm_spec.specs.Features.{Features}
use Rattle.wasm_spec_rules.specs.Parts.{Parts, Expression}
use Rattle.wasm_spec_rules.specs.IndexSpaces.{IndexSpaces, IsFunctionType, table_type}
use Rattle.wasm_spec_rules.specs.ItemRules.{IsValidTableEntry, IsValidMemory, IsValidTag}
use Rattle.wasm_spec_rules.specs.LinkRules.{IsValidImport, IsValidExport, HasDistinctNames, effective_size}
use Rattle.wasm_spec_rules.specs.Limits.{most_functions, most_tables, most_memories, most_globals, most_tags, size_limit}
use Rattle.wasm_spec_rules.specs.Sections.{each}
use Rattle.wasm_validator_core.specs.WasmValidatorCanonical.Sections.{written}
use Rattle.wasm_validator_types.specs.Spaces.{Spaces, no_spaces}
use Rattle.wasm_validator_core.specs.Answers.{TypesSoFar}
use Rattle.wasm_validator_core.specs.Items.{add_import, add_function, add_table, add_memory, add_tag, add_export}

-- a module of which only the types have been read
abbrev pub only_types : List ℕ → Spaces
only_types ids = record no_spaces { types = ids }

abbrev pub add_imports : Features → TypesSoFar → Spaces → List (Import ℕ) → Option Spaces
add_imports F us s is = each (add_import F us) s (map (map_import written) is)

abbrev pub add_functions : TypesSoFar → Spaces → List ℕ → Option Spaces
add_functions us s xs = each (add_function us) s xs

abbrev pub add_tables : Features → TypesSoFar → Spaces → List (TableEntry Expression ℕ) → Option Spaces
add_tables F us s ts = each (add_table F us) s (map (map_table written) (map table_type ts))

abbrev pub add_memories : Features → Spaces → List Memory → Option Spaces
add_memories F s ms = each (add_memory F) s ms

abbrev pub add_tags : Features → TypesSoFar → Spaces → List ℕ → Option Spaces
add_tags F us s xs = each (add_tag F us) s xs

abbrev pub add_exports : Features → TypesSoFar → Spaces → List Export → Option Spaces
add_exports F us s es = each (add_export F us) s es

-- list after list, in the order of their sections
abbrev pub add_lists : Features → TypesSoFar → Spaces → Parts → Option Spaces
add_lists F us s parts =
    option_and_then (λ a. option_and_then (λ b. option_and_then (λ c. option_and_then (λ d. option_and_then (λ e. add_exports F us e parts.exports)
    (add_tags F us d parts.tags)) (add_memories F c parts.memories)) (add_tables F us b parts.tables)) (add_functions us a parts.functions)) (add_imports F us s parts.imports)

-- the parts of a module with these imports alone
abbrev pub only_imports : List (Import ℕ) → Parts
only_imports is = record {
  groups = [];
  imports = is;
  functions = [];
  tables = [];
  memories = [];
  tags = [];
  globals = [];
  exports = [];
  starts = [];
  elements = [];
  data_counts = [];
  bodies = [];
  segments = [];
}

-- the lists of these parts up to the functions, the tables, the memories, the tags and the exports, one after another
abbrev pub up_to_functions : Parts → Parts
up_to_functions parts = record (only_imports parts.imports) { functions = parts.functions }

abbrev pub up_to_tables : Parts → Parts
up_to_tables parts = record (up_to_functions parts) { tables = parts.tables }

abbrev pub up_to_memories : Parts → Parts
up_to_memories parts = record (up_to_tables parts) { memories = parts.memories }

abbrev pub up_to_tags : Parts → Parts
up_to_tags parts = record (up_to_memories parts) { tags = parts.tags }

abbrev pub listed_parts : Parts → Parts
listed_parts parts = record (up_to_tags parts) { exports = parts.exports }

abbrev pub has_no_init : TableEntry Expression ℕ → Type 0
has_no_init t = t.init ≡ None

-- No part of these has an initializer: tables, globals, segments.
pub record HasNoInitializer (parts : Parts) : Type 0 where
  pub tables : All has_no_init parts.tables
  pub globals : parts.globals ≡ []
  pub elements : parts.elements ≡ []
  pub segments : parts.segments ≡ []

-- The rules of these lists.
pub record AreValidLists (F : Features) (C : IndexSpaces) (parts : Parts) : Type 0 where
  pub imports : All (IsValidImport F C.types) parts.imports
  pub functions : All (IsFunctionType C.types) parts.functions
  pub tables : All (IsValidTableEntry F C.types) parts.tables
  pub memories : All (IsValidMemory F) parts.memories
  pub tags : All (IsValidTag F C.types) parts.tags
  pub exports : All (IsValidExport F C) parts.exports
  pub export_names : HasDistinctNames parts.exports
  pub size : effective_size C parts.imports parts.exports < size_limit
  pub few_functions : length C.functions ≤ most_functions
  pub few_tables : length C.tables ≤ most_tables F
  pub few_memories : length C.memories ≤ most_memories F
  pub few_globals : length C.globals ≤ most_globals
  pub few_tags : length C.tags ≤ most_tags
