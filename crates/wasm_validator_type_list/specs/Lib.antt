pub use Rattle.wasm_validator_type_ancestors.specs.WasmValidatorTypeGroups as WasmValidatorTypeGroups
pub mod ListViews
pub mod GroupOrder
pub mod DefTypes
pub mod GroupInterning
pub mod Depths
pub mod ListSoundness
pub mod ListRefusals
pub mod Lookups
pub mod DeclarationsById
pub mod AncestorReads
pub mod Subtyping
pub mod GroupTypes
pub mod Worlds
pub mod Laws
