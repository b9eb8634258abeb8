pub use Rattle.wasm_typing_stacks.proofs.WasmSpecSteps as WasmSpecSteps
pub mod OperandMatches
pub mod OperandLookups
pub mod OperandLists
pub mod OperandExchanges
pub mod ActionSteps
pub mod TypeLookups
pub mod ListComparisons
pub mod IndexedTypes
pub mod KnownLists
pub mod KnownOperands
pub mod InnermostOperands
pub mod WrittenTypes
