pub use Rattle.wasm_typing_blocks.proofs as WasmTypingBlocks
pub mod FamilySteps
pub mod WrittenInstructions
pub mod SeldomSteps
