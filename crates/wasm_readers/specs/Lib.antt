pub use Rattle.wasm_readers_bytes.specs.WasmSpec as WasmSpec
pub use Rattle.wasm_readers_types.specs as WasmReadersTypes
pub use Rattle.wasm_readers_bytes.specs.WasmReadersErrors as WasmReadersErrors
pub use Rattle.wasm_readers_bytes.specs as WasmReadersBytes
pub mod Refusals
pub mod Sections
pub mod SectionsSeen
pub mod WrittenIndices
pub mod Items
pub mod Limits
pub mod Tables
pub mod Entries
