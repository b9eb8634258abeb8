pub use Rattle.wasm_laws_core.proofs as WasmLawsCore
pub use Rattle.wasm_validator_items.proofs.EntryRenamings as RenamedEntries
pub mod Entries
pub mod Depths
pub mod Numbers
pub mod ContextRenamings
pub mod DistinctTypeIds
pub mod Indices
pub mod ConstantsOverNumbers
pub mod SectionTypes
pub mod References
pub mod MatchingOverIds
pub mod TypeRanges
pub mod Exactness
pub mod Bodies
pub mod ItemSequences
pub mod Constants
pub mod AddedData
pub mod AddedGlobals
pub mod AddedTables
pub mod AddedElements
pub mod AllModuleLists
