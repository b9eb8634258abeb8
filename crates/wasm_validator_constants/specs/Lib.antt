pub use Rattle.wasm_validator_references.specs as WasmValidatorReferences
pub use Rattle.wasm_typing_validator.specs.WasmTypingStacks as WasmTypingStacks
pub use Rattle.wasm_typing_validator.specs.BodyTyping
pub use Rattle.wasm_typing_validator.specs.TypedInstructions
pub use Rattle.wasm_typing_validator.specs.WasmTypingFast.SignedNumbers
pub use Rattle.wasm_typing_validator.specs.declared.validator.OperatorValidator
pub mod Constants
pub mod Items
