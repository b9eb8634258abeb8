pub use Rattle.wasm_typing_checks.proofs.WasmSpecSteps as WasmSpecSteps
pub use Rattle.wasm_typing_checks.proofs as WasmTypingChecks
pub mod TypeComparisons
pub mod FormTypes
pub mod TableLookups
pub mod WideTypes
pub mod Cited
