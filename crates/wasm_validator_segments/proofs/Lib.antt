pub use Rattle.wasm_validator_constants.proofs.WasmValidatorReferences as WasmValidatorReferences
pub mod Typing
pub mod ConstantBytes
pub mod IntegerOffsets
pub mod WrittenTypes
pub mod Loops
pub mod PartReads
pub mod PassedReferences
pub mod NamedSegments
pub mod FunctionBytes
pub mod PlainSegments
