pub use Rattle.wasm_validator_constants.specs.WasmValidatorReferences as WasmValidatorReferences
pub use Rattle.wasm_validator_constants.specs.TypedInstructions
pub mod Expressions
pub mod Numbers
pub mod Offsets
pub mod Globals
pub mod Data
pub mod Lists
pub mod Elements
pub mod NamedFunctions
pub mod FunctionIndices
pub mod PlainElements
pub mod Answers
