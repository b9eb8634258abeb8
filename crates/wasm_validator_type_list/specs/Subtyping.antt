-- Reference types, value types and external types over the ids of a list.
pub use Rattle.wasm_readers_types.specs.Entities.{IsIdOfOne, IsEntityOver}
use Rattle.std.specs.Prelude.{ℕ}
use Rattle.std.specs.List.{All}
use Rattle.wasm_readers_errors.specs.WasmSpec.Syntax.{Heap, Ref, Val, Table, Global, Extern, map_heap, map_ref, map_val, map_table, map_global, map_extern}
use Rattle.wasm_readers_errors.specs.WasmSpec.References.{refs_heap, refs_val}
use Rattle.wasm_readers_types.specs.WasmReadersValues.declared.values.HeapType.{HeapType}
use Rattle.wasm_readers_types.specs.WasmReadersValues.declared.values.RefType.{RefType}
use Rattle.wasm_readers_types.specs.WasmReadersValues.declared.values.ValType.{ValType}
use Rattle.wasm_readers_types.specs.WasmReadersValues.SeenValues.{heap_of, ref_of, val_of}
use Rattle.wasm_readers_types.specs.declared.externs.TableType.{TableType}
use Rattle.wasm_readers_types.specs.declared.externs.GlobalType.{GlobalType}
use Rattle.wasm_readers_types.specs.declared.externs.EntityType.{EntityType}
use Rattle.wasm_readers_types.specs.SeenExterns.{table_of, global_of}
use Rattle.wasm_readers_types.specs.Entities.{entity_of}
use Rattle.wasm_validator_type_list.specs.Lookups.{leads_to}

-- each reference is the id of one of so many types
abbrev pub IsHeapOver : ℕ → HeapType → Type 0
IsHeapOver types h = All (IsIdOfOne types) (refs_heap (heap_of h))

abbrev pub IsRefOver : ℕ → RefType → Type 0
IsRefOver types r = All (IsIdOfOne types) (refs_heap (ref_of r).heap)

abbrev pub IsValOver : ℕ → ValType → Type 0
IsValOver types v = All (IsIdOfOne types) (refs_val (val_of v))

-- what they say, over the numbers of ids; there is no group around them
abbrev pub heap_by_ids : HeapType → Heap ℕ
heap_by_ids h = map_heap (leads_to 0) (heap_of h)

abbrev pub ref_by_ids : RefType → Ref ℕ
ref_by_ids r = map_ref (leads_to 0) (ref_of r)

abbrev pub val_by_ids : ValType → Val ℕ
val_by_ids v = map_val (leads_to 0) (val_of v)

abbrev pub table_by_ids : TableType → Table ℕ
table_by_ids t = map_table (leads_to 0) (table_of t)

abbrev pub global_by_ids : GlobalType → Global ℕ
global_by_ids g = map_global (leads_to 0) (global_of g)

abbrev pub entity_by_ids : EntityType → Extern ℕ
entity_by_ids e = map_extern (leads_to 0) (entity_of e)
