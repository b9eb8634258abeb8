-- What sections add to a module whose items hold constant expressions: each item is read and typed in the module as far as it has been
-- read. `us` are the types of all modules so far, and `declares` says of each of their ids what it declares.
-- Core Specification 3.0, Validation, Modules, and Binary Format, Modules.
use Rattle.std.specs.Prelude.{ℕ, zero, suc, ◌+◌, ◌==◌, nat_le, Bool, true, false, if◌then◌else◌, List, [], ◌∷◌, ◌++◌, map, length, Option, Some, None}
use Rattle.std.specs.Option.{option_map, option_and_then}
use Rattle.wasm_spec.specs.Syntax.{Ref, Sub, Val, reference, Table, Global, map_table, map_global}
use Rattle.wasm_spec.specs.BinaryTypes.{global_at}
use Rattle.wasm_spec.specs.Features.{Features}
use Rattle.wasm_spec_rules.specs.Contexts.{Context}
use Rattle.wasm_readers.specs.Tables.{Head, table_head_at}
use Rattle.wasm_readers.specs.WrittenIndices.{written}
use Rattle.wasm_readers_types.specs.WasmReadersValues.declared.indices.UnpackedIndex.{UnpackedIndex}
use Rattle.wasm_validator_core.specs.WasmValidatorCanonical.Indices.{canonical_index}
use Rattle.wasm_validator_core.specs.WasmValidatorChecks.Items.{is_valid_defined_table, is_valid_global}
use Rattle.wasm_validator_types.specs.Spaces.{Spaces}
use Rattle.wasm_validator_core.specs.declared.limits.TheConstants.{MAX_DATA_SEGMENTS}
use Rattle.wasm_validator_core.specs.Answers.{TypesSoFar}
use Rattle.wasm_validator_core.specs.Items.{types_of_module, with_table, with_global}
use Rattle.wasm_validator_core_resources.specs.IndexContexts.{id_of}
use Rattle.wasm_validator_core_resources.specs.ModuleContexts.{exact_flags, numbers_from}
use Rattle.wasm_validator_segments.specs.Data.{behind_data}
use Rattle.wasm_validator_segments.specs.Elements.{typed_element_at}
use Rattle.wasm_validator_segments.specs.Expressions.{behind_expression}

module _ {S : Type 0} (step : S → List ℕ → Option (S × List ℕ)) where
  -- so many items one after another, each read in the state that those before it left, and nothing behind the last
  abbrev pub items_from : ℕ → List ℕ → S → Option S
  items_from zero bytes s = if length bytes == 0 then Some s else None
  items_from (suc n) bytes s = option_and_then (λ x. items_from n x.1 x.0) (step s bytes)

-- The context of constant expressions in a module as far as it has been read: they name no segments, and each function counts as referenced.
abbrev pub context_of : List (UnpackedIndex × Sub UnpackedIndex) → Spaces → Context UnpackedIndex
context_of declares s = record {
  types = map id_of s.types;
  declares = declares;
  functions = s.functions;
  exact = exact_flags s.functions s.imported_functions;
  tables = s.tables;
  memories = s.memories;
  globals = s.globals;
  tags = s.tags;
  elements = [];
  data_count = None;
  references = numbers_from 0 (length s.functions);
}

-- the lists with an element segment of this type behind
abbrev pub with_element : Spaces → Ref UnpackedIndex → Spaces
with_element s r = record s { elements = s.elements ++ r ∷ [] }

-- the same of a value type, which is that of a reference
abbrev pub with_items : Spaces → Val UnpackedIndex → Spaces
with_items s (reference r) = with_element s r
with_items s _ = s

module _ (F : Features) (declares : List (UnpackedIndex × Sub UnpackedIndex)) where
  -- the bytes behind an expression of this type, which may read the immutable globals that there are, without `GC` only imported ones
  unfoldable pub behind_initializer : Spaces → Val UnpackedIndex → List ℕ → Option (List ℕ)
  behind_initializer s v bytes = behind_expression (context_of declares s) F s.imported_globals v bytes

  -- a global of this type, as the list of types has it, behind its initializer
  abbrev pub with_initialized : Spaces → Global UnpackedIndex → List ℕ → Option (Spaces × List ℕ)
  with_initialized s g bytes = option_and_then (λ more. option_map (λ t. (t, more)) (with_global s g)) (behind_initializer s g.content bytes)

  -- a global whose type is written so: it is valid over the module's types
  abbrev pub with_written : TypesSoFar → Spaces → Global UnpackedIndex → List ℕ → Option (Spaces × List ℕ)
  with_written us s g bytes =
      if is_valid_global F (types_of_module us s) g then with_initialized s (map_global (canonical_index s.types) g) bytes else None

  -- a global: its type, and its initializer
  unfoldable pub global_step : TypesSoFar → Spaces → List ℕ → Option (Spaces × List ℕ)
  global_step us s bytes = option_and_then (λ g. with_written us s g.0 g.1) (global_at written bytes)

  -- the bytes behind what the entries of a table of this type begin with, if that is written
  abbrev pub behind_init : Spaces → Table UnpackedIndex → Bool → List ℕ → Option (List ℕ)
  behind_init s t true bytes = behind_initializer s (reference t.element) bytes
  behind_init s t false bytes = Some bytes

  -- a table of this type, as the list of types has it, behind that
  abbrev pub with_init : Spaces → Table UnpackedIndex → Bool → List ℕ → Option (Spaces × List ℕ)
  with_init s t has_init bytes = option_and_then (λ more. option_map (λ n. (n, more)) (with_table F s t)) (behind_init s t has_init bytes)

  -- a table that begins so: it is valid over the module's types
  abbrev pub with_head : TypesSoFar → Spaces → Head → List ℕ → Option (Spaces × List ℕ)
  with_head us s h bytes =
      if is_valid_defined_table F (types_of_module us s) h.ty h.has_init then with_init s (map_table (canonical_index s.types) h.ty) h.has_init bytes else None

  -- a table: its type, and what its entries begin with
  unfoldable pub table_step : TypesSoFar → Spaces → List ℕ → Option (Spaces × List ℕ)
  table_step us s bytes = option_and_then (λ h. with_head us s h.0 h.1) (table_head_at bytes)

  -- an element segment
  unfoldable pub element_step : Spaces → List ℕ → Option (Spaces × List ℕ)
  element_step s bytes = option_map (λ x. (with_items s x.0, x.1)) (typed_element_at (context_of declares s) F s.imported_globals bytes)

  -- a data segment, which changes nothing
  unfoldable pub data_step : Spaces → List ℕ → Option (Spaces × List ℕ)
  data_step s bytes = option_map (λ more. (s, more)) (behind_data (context_of declares s) F s.imported_globals bytes)

  -- a data section: so many segments, which keep to the limit
  abbrev pub data_items : ℕ → List ℕ → Spaces → Option Spaces
  data_items count bytes s = if nat_le count MAX_DATA_SEGMENTS then items_from data_step count bytes s else None
