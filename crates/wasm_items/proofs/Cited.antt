-- What attributes here name of the crates below.
unfoldable pub use Rattle.wasm_readers.specs.WasmSpec.BinarySections.{data_at, element_at, global_entry_at}
unfoldable pub use Rattle.wasm_readers.specs.WasmSpec.BinaryTypes.{flags_at}
