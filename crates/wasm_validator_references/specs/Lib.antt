pub use Rattle.wasm_spec_validity.specs as WasmSpecValidity
pub mod Notes
pub mod References
pub mod Marks
pub mod NamedFunctions
