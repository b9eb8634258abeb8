pub use Rattle.wasm_validator_types.specs as WasmValidatorTypes
pub mod ListContexts
pub mod IndexContexts
pub mod ModuleContexts
pub mod ById
pub mod ModuleLookups
pub mod CodeLookups
