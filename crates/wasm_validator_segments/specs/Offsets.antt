-- Where an active segment begins: a constant expression of the address type of its table or memory.
-- Core Specification 3.0, Validation, Modules (Element Segments, Data Segments).
use Rattle.std.specs.Prelude.{ℕ, Bool, true, false, List, Option, slice_get}
use Rattle.std.specs.Option.{option_and_then}
use Rattle.wasm_spec.specs.Syntax.{Val, i32, i64}
use Rattle.wasm_spec.specs.Features.{Features}
use Rattle.wasm_spec_rules.specs.Contexts.{Context}
use Rattle.wasm_readers_types.specs.WasmReadersValues.declared.indices.UnpackedIndex.{UnpackedIndex}
use Rattle.wasm_validator_segments.specs.Expressions.{behind_expression}

-- the type of the addresses, of 64 bits or of 32
abbrev pub address_type : Bool → Val UnpackedIndex
address_type true = i64
address_type false = i32

module _ (C : Context UnpackedIndex) (F : Features) (imported : ℕ) where
  -- the bytes behind an offset into the table of this index, if there is one, and into the memory
  unfoldable pub behind_table_offset : ℕ → List ℕ → Option (List ℕ)
  behind_table_offset x bytes = option_and_then (λ t. behind_expression C F imported (address_type t.is_64) bytes) (slice_get C.tables x)

  unfoldable pub behind_memory_offset : ℕ → List ℕ → Option (List ℕ)
  behind_memory_offset x bytes = option_and_then (λ m. behind_expression C F imported (address_type m.is_64) bytes) (slice_get C.memories x)
