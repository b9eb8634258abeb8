pub use Rattle.wasm_validator_type_groups.proofs as WasmValidatorTypeGroups
pub mod Items
pub mod ListableGroups
pub mod ByIds
pub mod Results
pub mod Store
pub mod Growth
pub mod AncestorExtensions
pub mod Chains
pub mod Ancestors
pub mod NotedDepths
