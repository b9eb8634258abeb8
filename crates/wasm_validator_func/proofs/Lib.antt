pub use Rattle.wasm_typing_validator.proofs as WasmTypingValidator
pub mod DeclarationReads
pub mod LocalDeclarations
pub mod Machine
pub mod ByteSteps
pub mod OperatorSteps
pub mod BodyBytes
pub mod WholeBodies
pub mod Functions
