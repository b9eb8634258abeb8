pub use Rattle.wasm_validator_type_list.specs as WasmValidatorTypeList
pub use Rattle.wasm_validator_types.specs as WasmValidatorTypes
pub use Rattle.wasm_validator_canonical.specs as WasmValidatorCanonical
pub mod Answers
pub mod ModuleTypes
pub mod Items
pub mod Laws
pub mod ItemRefusals
pub mod Names
pub mod ModuleTypeIds
pub mod ListedExterns
pub mod Sizes
pub mod Arities
