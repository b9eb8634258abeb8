pub use Rattle.wasm_validator_type_groups.specs as WasmValidatorTypeGroups
pub mod Supers
pub mod GroupReferences
pub mod ReadCounts
pub mod Entries
pub mod AncestorEntries
pub mod Depths
pub mod NotedDepths
