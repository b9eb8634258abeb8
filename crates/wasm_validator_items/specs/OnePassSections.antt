-- What is read and typed in one pass is what the grammar reads, added: the sections whose items hold constant expressions.
-- Core Specification 3.0, Validation, Modules, and Binary Format, Modules.
use Rattle.std.specs.Prelude.{ℕ, ◌≡◌, List, Option}
use Rattle.std.specs.Option.{option_map}
use Rattle.wasm_spec.specs.Syntax.{Sub}
use Rattle.wasm_spec.specs.BinarySections.{table_entry_at, global_entry_at, element_at, data_at}
use Rattle.wasm_spec.specs.Features.{Features}
use Rattle.wasm_readers.specs.WrittenIndices.{written}
use Rattle.wasm_readers_types.specs.WasmReadersValues.declared.indices.UnpackedIndex.{UnpackedIndex}
use Rattle.wasm_validator_types.specs.Spaces.{Spaces}
use Rattle.wasm_validator_core.specs.declared.limits.TheConstants.{MAX_DATA_SEGMENTS}
use Rattle.wasm_validator_core.specs.Answers.{TypesSoFar}
use Rattle.wasm_validator_segments.specs.WasmValidatorReferences.WasmSpecValidity.Expressions.{expression_at}
use Rattle.wasm_validator_items.specs.Machine.{items_from, table_step, global_step, element_step, data_step, data_items}
use Rattle.wasm_validator_items.specs.Sections.{read_one, read_each, read_section}
use Rattle.wasm_validator_items.specs.Entries.{add_table_entry, add_global_entry, add_element, add_data}
use Rattle.wasm_validator_items.specs.Maps.{map_table_entry, map_global_entry, map_element}
use Rattle.wasm_spec_rules.specs.Parts as parts

-- what each of the ids of a list declares
abbrev pub Declared : Type 0
Declared = List (UnpackedIndex × Sub UnpackedIndex)

-- data segments leave the lists as they are, so that their count is asked for alone
abbrev pub DataAreReadAndAdded : Type 0
DataAreReadAndAdded =
    (F : Features) (declares : Declared) (count : ℕ) (bytes : List ℕ) (s : Spaces)
    → data_items F declares count bytes s ≡ read_section (data_at expression_at) (add_data F declares) 0 MAX_DATA_SEGMENTS count bytes s

-- The same of the item alone that the bytes begin with.
pub record ItemsAreReadAndAdded : Type 0 where
  pub tables : (F : Features) (declares : Declared) (us : TypesSoFar) (s : Spaces) (bytes : List ℕ)
      → table_step F declares us s bytes ≡ read_one (table_entry_at expression_at written) (add_table_entry F declares us) s bytes
  pub globals : (F : Features) (declares : Declared) (us : TypesSoFar) (s : Spaces) (bytes : List ℕ)
      → global_step F declares us s bytes ≡ read_one (global_entry_at expression_at written) (add_global_entry F declares us) s bytes
  pub elements : (F : Features) (declares : Declared) (s : Spaces) (bytes : List ℕ)
      → element_step F declares s bytes ≡ read_one (element_at expression_at written) (add_element F declares) s bytes
  pub segments : (F : Features) (declares : Declared) (s : Spaces) (bytes : List ℕ)
      → data_step F declares s bytes ≡ read_one (data_at expression_at) (add_data F declares) s bytes

-- The items of a section are added one by one: so many single items, each in the state that those before it left.
abbrev pub SectionsAddSingleItems : Type 0 → Type 0 → Type 0
SectionsAddSingleItems S V =
    (encoded : List ℕ → Option (V × List ℕ)) (add : S → V → Option S) (count : ℕ) (bytes : List ℕ) (s : S) → items_from (read_one encoded add) count bytes s ≡ read_each encoded add count bytes s

-- Reading with type indices as they are written, and as indices of the module, is the same but for their form.
pub record EntriesAreRenamed : Type 0 where
  pub tables : (bytes : List ℕ) → table_entry_at expression_at written bytes ≡ option_map (λ x. (map_table_entry written x.0, x.1)) (table_entry_at expression_at parts.index bytes)
  pub globals : (bytes : List ℕ) → global_entry_at expression_at written bytes ≡ option_map (λ x. (map_global_entry written x.0, x.1)) (global_entry_at expression_at parts.index bytes)
  pub elements : (bytes : List ℕ) → element_at expression_at written bytes ≡ option_map (λ x. (map_element written x.0, x.1)) (element_at expression_at parts.index bytes)
