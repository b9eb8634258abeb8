pub use Rattle.wasm_operators_vector.specs as WasmOperatorsVector
pub mod Codes
pub mod Forms
pub mod WideArithmetic
pub mod SharedCodes
pub mod SharedForms
