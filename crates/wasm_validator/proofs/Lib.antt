pub use Rattle.wasm_validator_modules.proofs.WasmLawsCore as WasmLawsCore
pub use Rattle.wasm_validator_modules.proofs.WasmValidatorCanonical as WasmValidatorCanonical
pub use Rattle.wasm_validator_modules.proofs.UnmovedValidators
pub mod Lists
pub mod TypeIdOrder
pub mod Headline
pub mod Calls
pub mod ShownTypeIds
mod ModuleSequences
pub mod ModuleIds
mod Limits
