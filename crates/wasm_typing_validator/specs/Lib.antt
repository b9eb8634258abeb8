pub use Rattle.wasm_typing_arity.specs as WasmTypingArity
pub use Rattle.wasm_typing_families.specs.WasmTypingBlocks.WasmTypingChecks.WasmSpecSteps as WasmSpecSteps
pub use Rattle.wasm_typing_families.specs.WasmTypingBlocks.WasmTypingChecks.WasmTypingStacks as WasmTypingStacks
pub use Rattle.wasm_typing_families.specs.WasmTypingBlocks.WasmTypingChecks as WasmTypingChecks
pub use Rattle.wasm_typing_families.specs.WasmTypingSteps.WasmTypingControl as WasmTypingControl
pub use Rattle.wasm_typing_families.specs.WasmTypingSteps.WasmTypingFast as WasmTypingFast
pub use Rattle.wasm_typing_families.specs.WasmTypingSteps as WasmTypingSteps
pub use Rattle.wasm_typing_families.specs.StackSteps as StackSteps
pub mod BodyTyping
pub mod QueryResults
pub mod OperatorVisits
pub mod StepsFromBytes
pub mod TypedInstructions
pub mod ModuleAnswers
pub mod Labels
pub mod ValidatorFailures
