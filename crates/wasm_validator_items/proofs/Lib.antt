pub use Rattle.wasm_validator_segments.proofs.WasmValidatorReferences as WasmValidatorReferences
pub use Rattle.wasm_validator_core_resources.proofs as WasmValidatorCoreResources
pub use Rattle.wasm_validator_core.proofs as WasmValidatorCore
pub use Rattle.wasm_validator_segments.proofs.ConstantBytes
mod Loops
mod Places
mod Refusals
mod Steps
pub mod Items
pub mod Attempts
pub mod InitializerReads
pub mod NamedFunctions
pub mod StepsInTurn
pub mod SectionLoop
pub mod GlobalReads
pub mod Offsets
pub mod Segments
pub mod EntryRenamings
pub mod TableReads
pub mod Lists
pub mod WrittenTypes
pub mod ItemLists
pub mod ElementReads
pub mod Singles
