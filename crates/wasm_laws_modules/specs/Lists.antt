-- The items of all of a module's lists, added one after another, and when they keep their rules. Core Specification 3.0, Validation,
-- Modules.
use Rattle.std.specs.Prelude.{ℕ, ◌≤◌, ◌<◌, List, length, map, Option}
use Rattle.std.specs.Option.{option_and_then}
use Rattle.std.specs.List.{All}
use Rattle.wasm_spec.specs.BinarySections.{TableEntry, GlobalEntry, Element, Data}
use Rattle.wasm_spec.specs.Features.{Features}
use Rattle.wasm_spec_rules.specs.Parts.{Parts, Expression}
use Rattle.wasm_spec_rules.specs.IndexSpaces.{IndexSpaces, IsFunctionType}
use Rattle.wasm_spec_rules.specs.ItemRules.{IsValidTableEntry, IsValidMemory, IsValidTag, IsValidGlobal}
use Rattle.wasm_spec_rules.specs.LinkRules.{IsValidImport, IsValidExport, HasDistinctNames, effective_size}
use Rattle.wasm_spec_rules.specs.SegmentRules.{IsValidElement, IsValidData}
use Rattle.wasm_spec_rules.specs.Limits.{most_functions, most_tables, most_memories, most_globals, most_tags, size_limit}
use Rattle.wasm_spec_rules.specs.Sections.{each}
use Rattle.wasm_laws_core.specs.WasmValidatorCanonical.Sections.{written}
use Rattle.wasm_laws_core.specs.WasmValidatorTypes.Spaces.{Spaces}
use Rattle.wasm_laws_core.specs.WasmValidatorCore.Answers.{TypesSoFar}
pub use Rattle.wasm_laws_core.specs.Lists.{up_to_tables, up_to_memories, up_to_tags}
use Rattle.wasm_laws_core.specs.Lists.{add_imports, add_functions, add_memories, add_tags, add_exports}
use Rattle.wasm_laws_core.specs.ListedTypes.{types_declare}
use Rattle.wasm_validator_items.specs.Entries.{add_table_entry, add_global_entry, add_element, add_data}
use Rattle.wasm_validator_items.specs.Maps.{map_table_entry, map_global_entry, map_element}

-- the lists whose items hold constant expressions, each typed in the module as far as it has been read
module _ (F : Features) (us : TypesSoFar) where
  abbrev pub add_table_entries : Spaces → List (TableEntry Expression ℕ) → Option Spaces
  add_table_entries s ts = each (add_table_entry F (types_declare us us) us) s (map (map_table_entry written) ts)

  abbrev pub add_global_entries : Spaces → List (GlobalEntry Expression ℕ) → Option Spaces
  add_global_entries s gs = each (add_global_entry F (types_declare us us) us) s (map (map_global_entry written) gs)

  abbrev pub add_elements : Spaces → List (Element Expression ℕ) → Option Spaces
  add_elements s es = each (add_element F (types_declare us us)) s (map (map_element written) es)

  abbrev pub add_segments : Spaces → List (Data Expression) → Option Spaces
  add_segments s ds = each (add_data F (types_declare us us)) s ds

  -- list after list, in the order of their sections
  abbrev pub add_all_lists : Spaces → Parts → Option Spaces
  add_all_lists s parts =
      option_and_then (λ a. option_and_then (λ b. option_and_then (λ c. option_and_then (λ d. option_and_then (λ e. option_and_then (λ f. option_and_then (λ g. option_and_then (λ h. add_segments h parts.segments)
      (add_elements g parts.elements)) (add_exports F us f parts.exports)) (add_global_entries e parts.globals)) (add_tags F us d parts.tags)) (add_memories F c parts.memories))
      (add_table_entries b parts.tables)) (add_functions us a parts.functions)) (add_imports F us s parts.imports)

-- the lists of these parts up to the globals, the exports and the element segments, one after another
abbrev pub up_to_globals : Parts → Parts
up_to_globals parts = record (up_to_tags parts) { globals = parts.globals }

abbrev pub up_to_exports : Parts → Parts
up_to_exports parts = record (up_to_globals parts) { exports = parts.exports }

abbrev pub up_to_elements : Parts → Parts
up_to_elements parts = record (up_to_exports parts) { elements = parts.elements }

-- The rules of these lists, but for the typing of their constant expressions.
pub record AreValidModuleLists (F : Features) (C : IndexSpaces) (parts : Parts) : Type 0 where
  pub imports : All (IsValidImport F C.types) parts.imports
  pub functions : All (IsFunctionType C.types) parts.functions
  pub tables : All (IsValidTableEntry F C.types) parts.tables
  pub memories : All (IsValidMemory F) parts.memories
  pub tags : All (IsValidTag F C.types) parts.tags
  pub globals : All (λ (g : GlobalEntry Expression ℕ). IsValidGlobal F C.types g.ty) parts.globals
  pub exports : All (IsValidExport F C) parts.exports
  pub export_names : HasDistinctNames parts.exports
  pub size : effective_size C parts.imports parts.exports < size_limit
  pub elements : All (IsValidElement F C) parts.elements
  pub segments : All (IsValidData F C) parts.segments
  pub few_functions : length C.functions ≤ most_functions
  pub few_tables : length C.tables ≤ most_tables F
  pub few_memories : length C.memories ≤ most_memories F
  pub few_globals : length C.globals ≤ most_globals
  pub few_tags : length C.tags ≤ most_tags
