pub use Rattle.wasm_typing_fast.specs.WasmTypingControl as WasmTypingControl
pub use Rattle.wasm_typing_fast.specs as WasmTypingFast
pub mod InstructionSteps
pub mod ToldSteps
