pub use Rattle.wasm_validator.proofs.WasmValidatorCanonical as WasmValidatorCanonical
pub mod FileStatuses
pub mod Escapes
pub mod Writers
