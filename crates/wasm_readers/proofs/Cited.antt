-- What attributes here name of the crates below.
unfoldable pub use Rattle.wasm_readers_bytes.specs.WasmSpec.BinaryModules.{entry_at, export_at, extern_at, import_at}
unfoldable pub use Rattle.wasm_readers_bytes.specs.WasmSpec.BinaryTypes.{abstract_heap_at, comp_at, field_at, final_or_not, flag_at, flags_at, func_at, global_at, heap_at, limits_at, marked_index_at, memory_at, rec_at, ref_at, storage_at, sub_at, table_at, tag_at, val_at}
