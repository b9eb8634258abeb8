pub use Rattle.wasm_validator_modules.specs.WasmSpecValidity as WasmSpecValidity
pub use Rattle.wasm_validator_modules.specs.WasmValidatorTypes as WasmValidatorTypes
pub use Rattle.wasm_validator_modules.specs.WasmValidatorCore as WasmValidatorCore
pub use Rattle.wasm_validator_modules.specs.WasmValidatorCanonical as WasmValidatorCanonical
pub use Rattle.wasm_validator_modules.specs.ValidatorStages
pub use Rattle.wasm_validator_modules.specs.Verdict
pub mod Lists
pub mod Headline
pub mod Calls
pub mod Limits
