pub use Rattle.wasm_typing_blocks.specs as WasmTypingBlocks
pub use Rattle.wasm_typing_steps.specs as WasmTypingSteps
pub mod StackSteps
pub mod StepsFromBytes
