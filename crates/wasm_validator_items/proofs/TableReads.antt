-- A table that is read and typed in one pass is read and then added.
use Rattle.std.proofs.Common.{◌≡◌, sym, ap, ◌∙◌, ℕ, Bool, true, false, if◌then◌else◌, List, Option, Some, None, option_map}
use Rattle.std.specs.Option.{option_and_then}
use Rattle.wasm_spec.specs.Syntax.{Sub, reference, Table, map_table}
use Rattle.wasm_spec.specs.BinarySections.{TableEntry, table_entry_at}
use Rattle.wasm_spec.specs.Features.{Features}
use Rattle.wasm_spec_rules.specs.Parts.{Expression}
use Rattle.wasm_readers.specs.Tables.{Head, table_head_at, table_behind}
use Rattle.wasm_readers.specs.WrittenIndices.{written}
use Rattle.wasm_readers.proofs.Tables.{heads_begin_tables}
use Rattle.wasm_readers_types.specs.WasmReadersValues.declared.indices.UnpackedIndex.{UnpackedIndex}
use Rattle.wasm_validator_core.specs.WasmValidatorCanonical.Indices.{canonical_index}
use Rattle.wasm_validator_core.specs.WasmValidatorChecks.Items.{is_valid_defined_table}
use Rattle.wasm_validator_segments.specs.WasmValidatorReferences.WasmSpecValidity.Expressions.{expression_at}
use Rattle.wasm_validator_types.specs.Spaces.{Spaces}
use Rattle.wasm_validator_core.specs.Answers.{TypesSoFar}
use Rattle.wasm_validator_core.specs.Items.{types_of_module, with_table}
use Rattle.wasm_validator_items.specs.Machine.{with_head, table_step}
use Rattle.wasm_validator_items.specs.Entries.{is_constant_of, add_table_entry}
use Rattle.wasm_validator_items.proofs.Attempts.{beside, added, then_mapped, then_then, then_same, both_tests, one_test}
use Rattle.wasm_validator_items.proofs.InitializerReads.{initializer_is}

module _ (F : Features) (declares : List (UnpackedIndex × Sub UnpackedIndex)) (us : TypesSoFar) (s : Spaces) where
  abbrev Entry : Type 0
  Entry = TableEntry Expression UnpackedIndex × List ℕ

  abbrev add : TableEntry Expression UnpackedIndex → Option Spaces
  add = add_table_entry F declares us s

  -- what is added of an entry, and what is behind it
  abbrev next : Entry → Option (Spaces × List ℕ)
  next x = option_map (beside x.1) (add x.0)

  -- a table of this type with an initializer
  abbrev entry : Table UnpackedIndex → Expression × List ℕ → Entry
  entry t e = (record { ty = t; init = Some e.0 }, e.1)

  initialized : (t : Table UnpackedIndex) (bytes : List ℕ) → with_head F declares us s (record { ty = t; has_init = true }) bytes ≡ added add (option_map (entry t) (expression_at bytes))
  initialized t bytes =
      let listed : Table UnpackedIndex = map_table (canonical_index s.types) t in
      let valid : Bool = is_valid_defined_table F (types_of_module us s) t true in
      ap (λ (o : Option (List ℕ)). if valid then option_and_then (λ more. option_map (beside more) (with_table F s listed)) o else None)
      (initializer_is F declares s (reference listed.element) bytes)
      ∙ both_tests valid (is_constant_of F declares s (reference listed.element)) (with_table F s listed) (expression_at bytes)
      ∙ sym (then_mapped next (entry t) (expression_at bytes))

  alone : (t : Table UnpackedIndex) (bytes : List ℕ) → with_head F declares us s (record { ty = t; has_init = false }) bytes ≡ next (record { ty = t; init = None }, bytes)
  alone t bytes = one_test (is_valid_defined_table F (types_of_module us s) t false) bytes (with_table F s (map_table (canonical_index s.types) t))

  begun : (t : Table UnpackedIndex) (has_init : Bool) (bytes : List ℕ)
      → with_head F declares us s (record { ty = t; has_init = has_init }) bytes ≡ added add (table_behind expression_at (record { ty = t; has_init = has_init }) bytes)
  begun t true bytes = initialized t bytes
  begun t false bytes = alone t bytes

  pub table_is_added : (bytes : List ℕ) → table_step F declares us s bytes ≡ added add (table_entry_at expression_at written bytes)
  unfolding table_step
  table_is_added bytes =
      then_same (λ (h : Head × List ℕ). with_head F declares us s h.0 h.1) (λ h. added add (table_behind expression_at h.0 h.1)) (λ h. begun h.0.ty h.0.has_init h.1) (table_head_at bytes)
      ∙ sym (then_then next (λ (h : Head × List ℕ). table_behind expression_at h.0 h.1) (table_head_at bytes))
      ∙ sym (ap (added add) (heads_begin_tables expression_at bytes))
