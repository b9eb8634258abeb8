pub use Rattle.wasm_readers_types.specs.WasmSpec as WasmSpec
pub use Rattle.wasm_readers_types.specs as WasmReadersTypes
pub mod Groups
pub mod Spans
pub mod FlatLists
pub mod Elements
pub mod Parts
pub mod Snapshots
pub mod Fronts
pub mod Places
pub mod GroupHashes
pub mod Tables
