pub use Rattle.wasm_validator_references.proofs as WasmValidatorReferences
pub mod Machine
pub mod ExpressionBytes
pub mod InstructionSteps
pub mod NamedFunctions
pub mod ItemBytes
pub mod ItemTypes
pub mod ItemNotes
