pub use Rattle.wasm_typing_control.proofs.WasmTypingChecks as WasmTypingChecks
pub mod NullTests
pub mod WrittenHeapTypes
pub mod ReferencesToFunctions
pub mod OperandsOnTop
pub mod ReferenceComparisons
pub mod NullBranches
pub mod Cited
