pub use Rattle.wasm_validator.specs as WasmValidator
pub mod Codes
pub mod Handle
pub mod HandleContents
pub mod Values
pub mod Pairs
pub mod Entities
pub mod Signatures
pub mod Calls
pub mod Names
pub mod Arrays
