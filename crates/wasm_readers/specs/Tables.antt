-- What contracts see of the first part of a table, before its initializer. Core Specification 3.0, Binary Format,
-- Modules, Table Section.
use Rattle.std.specs.Prelude.{ℕ, ◌≡◌, ◌==◌, if◌then◌else◌, Bool, true, false, List, Option, Some, None}
use Rattle.std.specs.Option.{option_map, option_and_then}
use Rattle.wasm_readers_bytes.specs.WasmSpec.Syntax.{Table}
use Rattle.wasm_readers_bytes.specs.WasmSpec.Values.{byte_at}
use Rattle.wasm_readers_bytes.specs.WasmSpec.BinaryTypes.{flags_at, table_at}
use Rattle.wasm_readers_bytes.specs.WasmSpec.BinarySections.{TableEntry, table_entry_at}
use Rattle.wasm_readers_types.specs.SeenExterns.{table_of}
use Rattle.wasm_readers_types.specs.WasmReadersValues.declared.indices.UnpackedIndex.{UnpackedIndex}
use Rattle.wasm_readers.specs.WrittenIndices.{written}
use Rattle.wasm_readers.specs.declared.items.TableHead.{TableHead}

-- how expressions are read: the bytes of one, and those behind it
abbrev pub ExpressionReading : Type 0
ExpressionReading = List ℕ → Option (List ℕ × List ℕ)

-- the first part of a table: its type, and whether an expression comes next
pub record Head : Type 0 where
  pub ty : Table UnpackedIndex
  pub has_init : Bool

abbrev pub head_of : TableHead → Head
head_of h = record { ty = table_of h.ty; has_init = h.has_init }

-- a table type, after which an expression comes or not
abbrev pub head_with : Bool → List ℕ → Option (Head × List ℕ)
head_with has_init bytes = option_map (λ t. (record { ty = t.0; has_init = has_init }, t.1)) (table_at written bytes)

-- 40 and 00 and a table type begin a table with an initializer; a table type alone is one without
abbrev pub table_head_from : ℕ → List ℕ → List ℕ → Option (Head × List ℕ)
table_head_from b more bytes = if b == 0x40 then option_and_then (λ z. head_with true z.1) (flags_at 0 more) else head_with false bytes

unfoldable pub table_head_at : List ℕ → Option (Head × List ℕ)
table_head_at bytes = option_and_then (λ b. table_head_from b.0 b.1 bytes) (byte_at bytes)

-- the table with what is behind its head: an expression, where it has an initializer
abbrev pub table_behind : ExpressionReading → Head → List ℕ → Option (TableEntry (List ℕ) UnpackedIndex × List ℕ)
table_behind expression_at h bytes =
    if h.has_init then option_map (λ e. (record { ty = h.ty; init = Some e.0 }, e.1)) (expression_at bytes)
    else Some (record { ty = h.ty; init = None }, bytes)

-- However expressions are read, a table is its head and what is behind it.
abbrev pub TableHeadsBeginTables : Type 0
TableHeadsBeginTables = (expression_at : ExpressionReading) (bytes : List ℕ) → table_entry_at expression_at written bytes ≡ option_and_then (λ h. table_behind expression_at h.0 h.1) (table_head_at bytes)
