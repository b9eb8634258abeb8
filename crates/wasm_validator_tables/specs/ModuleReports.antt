-- What is told of all side tables of a module, and written into a caller's arrays.
use Rattle.std.specs.Prelude.{ℕ, ◌≡◌, List, length}
use Rattle.std.specs.List.{flat_map}
use Rattle.std.specs.declared.alloc.Global.{Global}
use Rattle.wasm_readers_errors.specs.WasmReadersFeatures.declared.features.WasmFeatures.{WasmFeatures}
use Rattle.wasm_spec_side_tables.specs.declared.entry.Entry.{Entry}
use Rattle.wasm_validator_tables.specs.declared.module.BodyTable.{BodyTable}
use Rattle.wasm_validator_tables.specs.declared.totals.TableTotals.{TableTotals}
use Rattle.wasm_validator_tables.specs.TableReports.{AreWritten}
use Rattle.wasm_validator_tables.specs.ModuleTables.{Tabled, entries_in, told_behind, AreTablesIn}

-- The tables of all bodies of a module are told: how many they are and how many entries they have, each of them, and the entries.
pub record AreTold
    (bytes : List ℕ) (features : WasmFeatures) (totals : TableTotals)
    (tables_old tables_new : List BodyTable) (entries_old entries_new : List Entry) : Type 0 where
  pub all : List (Tabled Global)
  pub are : AreTablesIn bytes features all
  pub count : totals.tables ≡ length all
  pub sum : totals.entries ≡ length (flat_map entries_in all)
  pub tables : AreWritten (told_behind 0 all) tables_old tables_new
  pub entries : AreWritten (flat_map entries_in all) entries_old entries_new

-- nothing was written
pub record AllStay
    (totals_old totals_new : TableTotals)
    (tables_old tables_new : List BodyTable) (entries_old entries_new : List Entry) : Type 0 where
  pub totals : totals_new ≡ totals_old
  pub tables : tables_new ≡ tables_old
  pub entries : entries_new ≡ entries_old
