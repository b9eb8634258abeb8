-- A table is its head and what is behind it.
use Rattle.std.proofs.Common.{◌≡◌, refl, ℕ, Bool, true, false, cond, eqb, List, Option, Some, None}
use Rattle.std.specs.Option.{option_map, option_and_then}
use Rattle.wasm_readers_bytes.specs.WasmSpec.Syntax.{Table}
use Rattle.wasm_readers_bytes.specs.WasmSpec.Values.{byte_at}
use Rattle.wasm_readers_bytes.specs.WasmSpec.BinaryTypes.{flags_at, table_at}
use Rattle.wasm_readers_bytes.specs.WasmSpec.BinarySections.{TableEntry, table_from, table_entry_at}
use Rattle.wasm_readers_types.specs.WasmReadersValues.declared.indices.UnpackedIndex.{UnpackedIndex}
use Rattle.wasm_readers.specs.WrittenIndices.{written}
use Rattle.wasm_readers.specs.Tables.{ExpressionReading, Head, head_with, table_head_from, table_head_at, table_behind, TableHeadsBeginTables}

module _ (expression_at : ExpressionReading) where
  -- a table that goes on behind a head
  abbrev behind : Option (Head × List ℕ) → Option (TableEntry (List ℕ) UnpackedIndex × List ℕ)
  behind o = option_and_then (λ h. table_behind expression_at h.0 h.1) o

  -- with an initializer, after the type
  with_expression : (o : Option (Table UnpackedIndex × List ℕ)) → option_and_then (λ t. option_map (λ e. (record { ty = t.0; init = Some e.0 }, e.1)) (expression_at t.1)) o ≡ behind (option_map (λ t. (record { ty = t.0; has_init = true }, t.1)) o)
  with_expression None = refl
  with_expression (Some t) = refl

  -- without one
  alone : (o : Option (Table UnpackedIndex × List ℕ)) → option_map (λ t. (record { ty = t.0; init = None }, t.1)) o ≡ behind (option_map (λ t. (record { ty = t.0; has_init = false }, t.1)) o)
  alone None = refl
  alone (Some t) = refl

  after_zero : (o : Option (ℕ × List ℕ)) → option_and_then (λ z. option_and_then (λ t. option_map (λ e. (record { ty = t.0; init = Some e.0 }, e.1)) (expression_at t.1)) (table_at written z.1)) o ≡ behind (option_and_then (λ z. head_with true z.1) o)
  after_zero None = refl
  after_zero (Some z) = with_expression (table_at written z.1)

  -- whichever of both the first byte says
  either : (first : Bool) (x y : Option (TableEntry (List ℕ) UnpackedIndex × List ℕ)) (a b : Option (Head × List ℕ)) → x ≡ behind a → y ≡ behind b → cond first x y ≡ behind (cond first a b)
  either true x y a b e f = e
  either false x y a b e f = f

  from_byte : (bytes : List ℕ) (o : Option (ℕ × List ℕ)) → option_and_then (λ b. table_from expression_at written b.0 b.1 bytes) o ≡ behind (option_and_then (λ b. table_head_from b.0 b.1 bytes) o)
  from_byte bytes None = refl
  from_byte bytes (Some b) = either (eqb b.0 0x40) _ _ _ _ (after_zero (flags_at 0 b.1)) (alone (table_at written bytes))

  head_first : (bytes : List ℕ) → table_entry_at expression_at written bytes ≡ behind (table_head_at bytes)
  unfolding table_entry_at table_head_at
  head_first bytes = from_byte bytes (byte_at bytes)

pub heads_begin_tables : TableHeadsBeginTables
heads_begin_tables expression_at bytes = head_first expression_at bytes
