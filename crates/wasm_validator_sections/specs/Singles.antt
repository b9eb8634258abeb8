-- What single items add to a module that has been read so far, where their constant expressions are typed in that module: each is read by
-- the grammar, and then added. A section is its items, one after another. `us` are the types of all modules so far.
-- Core Specification 3.0, Validation, Modules.
use Rattle.std.specs.Prelude.{ℕ, List, length, Option}
use Rattle.wasm_spec.specs.BinarySections.{table_entry_at, global_entry_at, element_at, data_at}
use Rattle.wasm_spec.specs.Features.{Features}
use Rattle.wasm_readers.specs.WrittenIndices.{written}
use Rattle.wasm_validator_types.specs.Spaces.{Spaces}
use Rattle.wasm_validator_items.specs.WasmValidatorCore.declared.limits.TheConstants.{MAX_ELEMENT_SEGMENTS}
use Rattle.wasm_validator_items.specs.WasmValidatorCore.Answers.{TypesSoFar}
use Rattle.wasm_laws_modules.specs.WasmLawsCore.ListedTypes.{types_declare}
use Rattle.wasm_validator_items.specs.WasmValidatorReferences.WasmSpecValidity.Expressions.{expression_at}
use Rattle.wasm_validator_items.specs.Entries.{add_table_entry, add_global_entry, add_element, add_data}
use Rattle.wasm_validator_items.specs.Sections.{read_one, read_one_of}

module _ (F : Features) (us : TypesSoFar) (s : Spaces) where
  abbrev pub next_table : List ℕ → Option (Spaces × List ℕ)
  next_table bytes = read_one (table_entry_at expression_at written) (add_table_entry F (types_declare us us) us) s bytes

  abbrev pub next_global : List ℕ → Option (Spaces × List ℕ)
  next_global bytes = read_one (global_entry_at expression_at written) (add_global_entry F (types_declare us us) us) s bytes

  -- one more keeps to the limit
  abbrev pub next_element : List ℕ → Option (Spaces × List ℕ)
  next_element bytes = read_one_of (element_at expression_at written) (add_element F (types_declare us us)) (length s.elements) MAX_ELEMENT_SEGMENTS s bytes

  -- nothing is added of a data segment
  abbrev pub next_data : List ℕ → Option (Spaces × List ℕ)
  next_data bytes = read_one (data_at expression_at) (add_data F (types_declare us us)) s bytes
