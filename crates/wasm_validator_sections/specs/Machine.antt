-- What one section changes: the machine that the validator is, over that of a module's state.
use Rattle.std.specs.Prelude.{ℕ, ◌==◌, if◌then◌else◌, List, length, Option, Some, None}
use Rattle.std.specs.Option.{option_and_then}
use Rattle.wasm_spec.specs.Values.{u32_at}
use Rattle.wasm_spec.specs.BinaryModules.{Import, import_at, entry_at, export_at}
use Rattle.wasm_spec.specs.BinaryTypes.{rec_at, memory_at, tag_at}
use Rattle.wasm_spec.specs.BinarySections.{table_entry_at, global_entry_at, element_at, data_at}
use Rattle.wasm_spec.specs.Features.{Features}
use Rattle.wasm_spec_rules.specs.FeatureFlags.{features_of}
use Rattle.wasm_spec_rules.specs.Limits.{most_tables, most_memories}
use Rattle.wasm_spec_rules.specs.Sections.{each}
use Rattle.wasm_readers.specs.WrittenIndices.{written}
use Rattle.wasm_readers_types.specs.WasmReadersValues.declared.indices.UnpackedIndex.{UnpackedIndex}
use Rattle.wasm_readers_errors.specs.WasmReadersFeatures.declared.features.WasmFeatures.{WasmFeatures}
use Rattle.wasm_validator_types.specs.Spaces.{Spaces}
use Rattle.wasm_validator_items.specs.WasmValidatorCore.declared.limits.TheConstants.{MAX_TYPES, MAX_IMPORTS, MAX_FUNCTIONS, MAX_GLOBALS, MAX_TAGS, MAX_EXPORTS, MAX_ELEMENT_SEGMENTS, MAX_DATA_SEGMENTS}
use Rattle.wasm_validator_items.specs.WasmValidatorCore.Machine.{add_group}
use Rattle.wasm_validator_items.specs.WasmValidatorCore.Items.{is_startable, is_data_count, add_import, add_function, add_memory, add_tag, add_export}
use Rattle.wasm_validator_items.specs.WasmValidatorCore.Answers.{TypesSoFar}
use Rattle.wasm_laws_modules.specs.WasmLawsCore.ListedTypes.{types_declare}
use Rattle.wasm_validator_items.specs.WasmValidatorReferences.WasmSpecValidity.Expressions.{expression_at}
use Rattle.wasm_validator_sections.specs.Sections.{read_section}
use Rattle.wasm_validator_sections.specs.Entries.{add_table_entry, add_global_entry, add_element, add_data}

abbrev pub type_items : WasmFeatures → ℕ → List ℕ → TypesSoFar × Spaces → Option (TypesSoFar × Spaces)
type_items features count bytes p = read_section (rec_at written) (add_group features) (length p.1.types) MAX_TYPES count bytes p

-- the imports that an entry stands for, one after another
abbrev pub add_entry : Features → TypesSoFar → Spaces → List (Import UnpackedIndex) → Option Spaces
add_entry F us s is = each (add_import F us) s is

-- entries that are one import each, and entries that may be several: their count is asked for, and not that of imports
abbrev pub single_imports : Features → TypesSoFar → ℕ → List ℕ → Spaces → Option Spaces
single_imports F us count bytes s = read_section (import_at written) (add_import F us) (length s.imports) MAX_IMPORTS count bytes s

abbrev pub entry_imports : Features → TypesSoFar → ℕ → List ℕ → Spaces → Option Spaces
entry_imports F us count bytes s = read_section (entry_at written) (add_entry F us) (length s.imports) MAX_IMPORTS count bytes s

abbrev pub import_items : Features → TypesSoFar → ℕ → List ℕ → Spaces → Option Spaces
import_items F us count bytes s = if F.compact_imports then entry_imports F us count bytes s else single_imports F us count bytes s

abbrev pub function_items : TypesSoFar → ℕ → List ℕ → Spaces → Option Spaces
function_items us count bytes s = read_section u32_at (add_function us) (length s.functions) MAX_FUNCTIONS count bytes s

-- constant expressions are typed over what the ids of all types so far declare
abbrev pub table_items : Features → TypesSoFar → ℕ → List ℕ → Spaces → Option Spaces
table_items F us count bytes s =
    read_section (table_entry_at expression_at written) (add_table_entry F (types_declare us us) us) (length s.tables) (most_tables F) count bytes s

abbrev pub global_items : Features → TypesSoFar → ℕ → List ℕ → Spaces → Option Spaces
global_items F us count bytes s =
    read_section (global_entry_at expression_at written) (add_global_entry F (types_declare us us) us) (length s.globals) MAX_GLOBALS count bytes s

abbrev pub element_items : Features → TypesSoFar → ℕ → List ℕ → Spaces → Option Spaces
element_items F us count bytes s =
    read_section (element_at expression_at written) (add_element F (types_declare us us)) (length s.elements) MAX_ELEMENT_SEGMENTS count bytes s

-- data segments aren't kept, so that a section's count is asked for alone
abbrev pub data_items : Features → TypesSoFar → ℕ → List ℕ → Spaces → Option Spaces
data_items F us count bytes s = read_section (data_at expression_at) (add_data F (types_declare us us)) 0 MAX_DATA_SEGMENTS count bytes s

abbrev pub memory_items : Features → ℕ → List ℕ → Spaces → Option Spaces
memory_items F count bytes s = read_section memory_at (add_memory F) (length s.memories) (most_memories F) count bytes s

abbrev pub export_items : Features → TypesSoFar → ℕ → List ℕ → Spaces → Option Spaces
export_items F us count bytes s = read_section export_at (add_export F us) (length s.exports) MAX_EXPORTS count bytes s

-- tags, be they none, are there with exceptions alone
abbrev pub tag_items : Features → TypesSoFar → ℕ → List ℕ → Spaces → Option Spaces
tag_items F us count bytes s = if F.exceptions then read_section tag_at (add_tag F us) (length s.tags) MAX_TAGS count bytes s else None

-- a section by its id, where the types of all modules so far are these
abbrev pub other_items : Features → TypesSoFar → ℕ → ℕ → List ℕ → Spaces → Option Spaces
other_items F us id count bytes s =
    if id == 2 then import_items F us count bytes s
    else (if id == 3 then function_items us count bytes s
    else (if id == 4 then table_items F us count bytes s
    else (if id == 5 then memory_items F count bytes s
    else (if id == 6 then global_items F us count bytes s
    else (if id == 7 then export_items F us count bytes s
    else (if id == 9 then element_items F us count bytes s
    else (if id == 11 then data_items F us count bytes s
    else (if id == 13 then tag_items F us count bytes s
    else None))))))))

-- the same where the types of other modules stand beside
abbrev pub beside : (TypesSoFar → Spaces → Option Spaces) → TypesSoFar × Spaces → Option (TypesSoFar × Spaces)
beside f p = option_and_then (λ s. Some (p.0, s)) (f p.0 p.1)

abbrev pub section_items : WasmFeatures → ℕ → ℕ → List ℕ → TypesSoFar × Spaces → Option (TypesSoFar × Spaces)
section_items features id count bytes p =
    if id == 1 then type_items features count bytes p else beside (λ us. other_items (features_of features) us id count bytes) p

-- a start function, and the number of data segments: where it may be so, nothing changes
abbrev pub start_item : TypesSoFar → Spaces → ℕ → Option Spaces
start_item us s x = if is_startable us s x then Some s else None

abbrev pub data_count_item : Features → Spaces → ℕ → Option Spaces
data_count_item F s n = if is_data_count F n then Some s else None
