-- What is told of a side table, and written into a caller's array.
use Rattle.std.specs.Prelude.{ℕ, ◌≡◌, ◌<◌, ◌≤◌, List, length, slice_get, Some}
use Rattle.wasm_readers_errors.specs.WasmReadersFeatures.declared.features.WasmFeatures.{WasmFeatures}
use Rattle.std.specs.declared.alloc.Global.{Global}
use Rattle.wasm_spec_side_tables.specs.declared.entry.Entry.{Entry}
use Rattle.wasm_validator_side_table.specs.WasmValidatorSideNotes.declared.table.SideTable.{SideTable}
use Rattle.wasm_validator_tables.specs.declared.report.TableCounts.{TableCounts}
use Rattle.wasm_validator_tables.specs.FunctionTables.{IsTableIn}

-- These stand in the array from its beginning, as far as there is room, and all behind them is as it was.
pub record AreWritten {X : Type 0} (given old new : List X) : Type 0 where
  pub room : length new ≡ length old
  pub told : (k : ℕ) (x : X) → k < length given → slice_get new k ≡ Some x → slice_get given k ≡ Some x
  pub others : (k : ℕ) → length given ≤ k → slice_get new k ≡ slice_get old k

-- how many entries there are, from where to where the instructions stand, and how many operands and locals there are at most
abbrev pub counts_in : {A : Type 0} → SideTable A → TableCounts
counts_in t = record { entries = length t.entries; first = t.first; end = t.end; operands = t.operands; locals = t.locals }

-- The table of a function's body is told.
pub record IsTold (bytes : List ℕ) (features : WasmFeatures) (function : ℕ) (c : TableCounts) (old new : List Entry) : Type 0 where
  pub table : SideTable Global
  pub is : IsTableIn bytes features function table
  pub counts : c ≡ counts_in table
  pub entries : AreWritten table.entries old new

-- nothing was written
pub record Stays (c0 c1 : TableCounts) (old new : List Entry) : Type 0 where
  pub counts : c1 ≡ c0
  pub entries : new ≡ old
