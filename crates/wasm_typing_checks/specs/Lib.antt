pub use Rattle.wasm_validator_resources.specs.WasmSpecRules as WasmSpecRules
pub use Rattle.wasm_validator_resources.specs as WasmValidatorResources
pub use Rattle.wasm_typing_stacks.specs.WasmSpecSteps as WasmSpecSteps
pub use Rattle.wasm_typing_stacks.specs as WasmTypingStacks
pub mod KnownLists
pub mod Steps
pub mod SeenTypes
pub mod OperatorRefusals
pub mod DeclaredTypes
