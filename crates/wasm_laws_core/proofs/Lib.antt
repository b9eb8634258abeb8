pub mod Equality
pub use Rattle.wasm_validator_core.proofs.WasmValidatorCanonical as WasmValidatorCanonical
pub use Rattle.wasm_validator_core.proofs.WasmValidatorChecks as WasmValidatorChecks
pub mod WorldsAlone
pub mod ShortChains
pub mod NumbersBelow
pub mod IdReferences
pub mod NumbersAndIds
pub mod AcceptedTypeNumbers
pub mod IndexRanges
pub mod ModuleOverIds
pub mod ListedTypes
pub mod GrownLists
pub mod GroupTrees
pub mod Steps
pub mod Fronts
pub mod Sizes
pub mod ImportLimits
pub mod ImportRows
pub mod AddedImports
pub mod AddedItems
pub mod AddedDefinitions
pub mod ExportedEntities
pub mod ExportNames
pub mod AddedExports
pub mod AllLists
pub mod StartFunctions
pub mod HeldTypes
