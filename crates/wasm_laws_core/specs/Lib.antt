pub mod Equality
pub use Rattle.wasm_validator_core_resources.specs as WasmValidatorCoreResources
pub use Rattle.wasm_validator_types.specs as WasmValidatorTypes
pub use Rattle.wasm_validator_core.specs.WasmValidatorCanonical as WasmValidatorCanonical
pub use Rattle.wasm_validator_core.specs.WasmValidatorChecks as WasmValidatorChecks
pub use Rattle.wasm_validator_core.specs as WasmValidatorCore
pub mod ContextWorlds
pub mod TypeNumbers
pub mod ModuleOverIds
pub mod ListedTypes
pub mod GrownLists
pub mod GroupTrees
pub mod ModuleParts
pub mod Lists
pub mod Laws
pub mod Imports
pub mod Exports
pub mod ShownTypeIds
