-- A table is its head and what is behind it.
use Rattle.std.proofs.Common.{◌≡◌, ap, ◌∙◌, ℕ, Bool, true, false, List, Option, Some, None}
use Rattle.std.specs.Option.{option_map, option_and_then}
use Rattle.wasm_readers.specs.WasmSpec.Syntax.{Table}
use Rattle.wasm_readers.specs.WasmSpec.BinarySections.{TableEntry, table_entry_at}
use Rattle.wasm_readers.specs.WasmReadersTypes.WasmReadersValues.declared.indices.UnpackedIndex.{UnpackedIndex}
use Rattle.wasm_readers.specs.WrittenIndices.{written}
use Rattle.wasm_readers.specs.Tables.{ExpressionReading, Head, table_head_at, table_behind}
use Rattle.wasm_readers.proofs.Tables.{heads_begin_tables}

module _ (reads : ExpressionReading) (bytes : List ℕ) where
  abbrev behind_head : Option (Head × List ℕ) → Option (TableEntry (List ℕ) UnpackedIndex × List ℕ)
  behind_head o = option_and_then (λ h. table_behind reads h.0 h.1) o

  behind : (o : Option (Head × List ℕ)) → table_head_at bytes ≡ o → table_entry_at reads written bytes ≡ behind_head o
  behind o e = heads_begin_tables reads bytes ∙ ap behind_head e

  pub table_alone : (ty : Table UnpackedIndex) (has_init : Bool) (middle : List ℕ) → table_head_at bytes ≡ Some (record { ty = ty; has_init = has_init }, middle) → has_init ≡ false
      → table_entry_at reads written bytes ≡ Some (record { ty = ty; init = None }, middle)
  table_alone ty true middle e is = absurd cc
  table_alone ty false middle e is = behind (Some (record { ty = ty; has_init = false }, middle)) e

  abbrev with_init : Table UnpackedIndex → List ℕ × List ℕ → TableEntry (List ℕ) UnpackedIndex × List ℕ
  with_init ty x = (record { ty = ty; init = Some x.0 }, x.1)

  pub table_with_init : (ty : Table UnpackedIndex) (has_init : Bool) (middle init more : List ℕ) → table_head_at bytes ≡ Some (record { ty = ty; has_init = has_init }, middle) → has_init ≡ true
      → reads middle ≡ Some (init, more) → table_entry_at reads written bytes ≡ Some (record { ty = ty; init = Some init }, more)
  table_with_init ty false middle init more e is f = absurd cc
  table_with_init ty true middle init more e is f = behind (Some (record { ty = ty; has_init = true }, middle)) e ∙ ap (option_map (with_init ty)) f

  pub no_init : (ty : Table UnpackedIndex) (has_init : Bool) (middle : List ℕ) → table_head_at bytes ≡ Some (record { ty = ty; has_init = has_init }, middle) → has_init ≡ true
      → reads middle ≡ None → table_entry_at reads written bytes ≡ None
  no_init ty false middle e is f = absurd cc
  no_init ty true middle e is f = behind (Some (record { ty = ty; has_init = true }, middle)) e ∙ ap (option_map (with_init ty)) f

  pub no_head : table_head_at bytes ≡ None → table_entry_at reads written bytes ≡ None
  no_head e = behind None e

pub ruleset tables_by_heads = (table_alone, table_with_init, no_init, no_head)
