pub use Rattle.wasm_readers_types.specs.WasmSpec as WasmSpec
pub use Rattle.wasm_readers_types.specs as WasmReadersTypes
pub use Rattle.wasm_typing_numbers.specs.WasmSpecRules as WasmSpecRules
pub use Rattle.wasm_typing_numbers.specs.WasmOperators as WasmOperators
pub use Rattle.wasm_typing_numbers.specs.WasmTypingChecks as WasmTypingChecks
pub mod Blocks
pub mod FastSteps
pub mod FrameEntries
pub mod Callees
