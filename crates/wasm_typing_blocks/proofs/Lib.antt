pub use Rattle.wasm_typing_control.proofs.WasmTypingChecks as WasmTypingChecks
pub mod ListItems
pub mod BlockTypes
pub mod BlockEntries
pub mod ElseAndCatch
pub mod LegacyLabels
pub mod SelectTypes
pub mod ExceptionTypes
pub mod TableBranches
pub mod CatchOperands
pub mod CatchClauses
pub mod CatchCounts
pub mod WrittenTypeLists
pub mod Cited
