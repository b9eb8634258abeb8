pub use Rattle.wasm_typing_validator.specs as WasmTypingValidator
pub use Rattle.wasm_typing_validator.specs.StackSteps
pub mod Bodies
pub mod BodyValidation
pub mod Functions
pub mod Labels
