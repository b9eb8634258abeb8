pub use Rattle.wasm_typing_checks.specs.WasmSpecRules as WasmSpecRules
pub use Rattle.wasm_operators.specs as WasmOperators
pub use Rattle.wasm_typing_checks.specs.WasmSpecSteps as WasmSpecSteps
pub use Rattle.wasm_typing_checks.specs.WasmTypingStacks as WasmTypingStacks
pub use Rattle.wasm_typing_checks.specs as WasmTypingChecks
pub mod Accesses
pub mod Forms
pub mod ReachableTables
