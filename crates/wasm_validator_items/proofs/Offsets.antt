-- Offsets of segments, read and typed in one pass, are read and then typed.
use Rattle.std.proofs.Common.{◌≡◌, refl, sym, ℕ, Bool, false, if◌then◌else◌, List, Option, Some, None, slice_get}
use Rattle.std.specs.Option.{option_and_then}
use Rattle.wasm_spec.specs.Syntax.{Sub, Memory, Table}
use Rattle.wasm_spec.specs.Features.{Features}
use Rattle.wasm_spec_rules.specs.Attempts.{passes}
use Rattle.wasm_spec_rules.specs.Parts.{Expression}
use Rattle.wasm_readers_types.specs.WasmReadersValues.declared.indices.UnpackedIndex.{UnpackedIndex}
use Rattle.wasm_validator_segments.specs.WasmValidatorReferences.WasmSpecValidity.Expressions.{expression_at}
use Rattle.wasm_validator_items.specs.Expressions.{behind_expression}
use Rattle.wasm_validator_segments.specs.Offsets.{address_type, behind_table_offset, behind_memory_offset}
use Rattle.wasm_validator_types.specs.Spaces.{Spaces}
use Rattle.wasm_validator_items.specs.Machine.{context_of}
use Rattle.wasm_validator_items.specs.Entries.{is_offset}
use Rattle.wasm_validator_items.proofs.Attempts.{behind_where, always_none}
use Rattle.wasm_validator_items.proofs.InitializerReads.{expression_is}

module _ (F : Features) (declares : List (UnpackedIndex × Sub UnpackedIndex)) (s : Spaces) where
  -- an offset into what is there, if it is, whose addresses have so many bits
  offset_into : {X : Type 0} (is_64 : X → Bool) (o : Option X) (bytes : List ℕ)
      → option_and_then (λ x. behind_expression (context_of declares s) F s.imported_globals (address_type (is_64 x)) bytes) o
      ≡ behind_where (λ e. passes (λ x. is_offset F declares s (is_64 x) e) o) (expression_at bytes)
  offset_into is_64 None bytes = sym (always_none (λ (e : Expression × List ℕ). if false then Some e.1 else None) (λ e. refl) (expression_at bytes))
  offset_into is_64 (Some x) bytes = expression_is F declares s (address_type (is_64 x)) bytes

  pub memory_offset_is : (x : ℕ) (bytes : List ℕ)
      → behind_memory_offset (context_of declares s) F s.imported_globals x bytes ≡ behind_where (λ e. passes (λ m. is_offset F declares s m.is_64 e) (slice_get s.memories x)) (expression_at bytes)
  unfolding behind_memory_offset
  memory_offset_is x bytes = offset_into (λ (m : Memory). m.is_64) (slice_get s.memories x) bytes

  pub table_offset_is : (x : ℕ) (bytes : List ℕ)
      → behind_table_offset (context_of declares s) F s.imported_globals x bytes ≡ behind_where (λ e. passes (λ t. is_offset F declares s t.is_64 e) (slice_get s.tables x)) (expression_at bytes)
  unfolding behind_table_offset
  table_offset_is x bytes = offset_into (λ (t : Table UnpackedIndex). t.is_64) (slice_get s.tables x) bytes
