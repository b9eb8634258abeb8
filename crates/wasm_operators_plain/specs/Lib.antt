pub use Rattle.wasm_readers.specs.WasmSpec as WasmSpec
pub use Rattle.wasm_readers.specs.WasmReadersTypes as WasmReadersTypes
pub use Rattle.wasm_readers.specs as WasmReaders
pub mod Opcodes
pub mod Numeric
pub mod Signatures
pub mod Immediates
pub mod Refusals
pub mod Calls
pub mod Variables
pub mod Tables
pub mod Memories
pub mod Constants
pub mod Conversions
pub mod Structs
pub mod Arrays
pub mod Indices
