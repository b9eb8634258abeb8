pub use Rattle.wasm_typing_control.specs.WasmSpec as WasmSpec
pub use Rattle.wasm_typing_control.specs.WasmReadersTypes as WasmReadersTypes
pub use Rattle.wasm_typing_control.specs.WasmSpecRules as WasmSpecRules
pub use Rattle.wasm_typing_control.specs.WasmOperators as WasmOperators
pub use Rattle.wasm_typing_control.specs.WasmTypingChecks as WasmTypingChecks
pub mod SeenReferences
pub mod WrittenReferences
