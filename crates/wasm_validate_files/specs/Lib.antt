pub use Rattle.wasm_validator.specs.WasmValidatorTypes as WasmValidatorTypes
pub use Rattle.wasm_validator.specs.WasmValidatorCore as WasmValidatorCore
pub mod Files
pub mod Answers
pub mod Words
pub mod Printable
pub mod TextFormat
