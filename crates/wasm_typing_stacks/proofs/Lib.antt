pub use Rattle.wasm_spec_steps.proofs as WasmSpecSteps
pub mod TypeWordCodes
pub mod ReversedLists
pub mod NumberFlags
pub mod LocalWords
pub mod LocalRuns
pub mod LocalFronts
pub mod OperandWords
pub mod FrameOperands
pub mod OperandPushes
pub mod StackSlices
pub mod PushedLists
