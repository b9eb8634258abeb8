pub use Rattle.wasm_typing_numbers.proofs.WasmTypingChecks as WasmTypingChecks
pub use Rattle.wasm_typing_numbers.proofs.TableLookups as TableLookups
pub mod LocalOperators
pub mod GlobalLookups
pub mod LabelTypes
pub mod FrameEnds
pub mod OpenFrames
pub mod ReturnLists
pub mod UnreachedOperands
pub mod CallLookups
pub mod OperandPeeks
pub mod KnownOperands
pub mod Cited
