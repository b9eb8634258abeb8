pub use Rattle.wasm_validator_items.specs.WasmValidatorReferences as WasmValidatorReferences
pub use Rattle.wasm_validator_items.specs.WasmValidatorCore.WasmValidatorChecks as WasmValidatorChecks
pub use Rattle.wasm_validator_items.specs.WasmValidatorCore as WasmValidatorCore
pub use Rattle.wasm_laws_modules.specs.WasmLawsCore as WasmLawsCore
pub use Rattle.wasm_validator_func.specs as WasmValidatorFunc
pub use Rattle.wasm_laws_modules.specs as WasmLawsModules
pub use Rattle.wasm_validator_items.specs.Entries
pub use Rattle.wasm_validator_items.specs.Sections
pub mod Bodies
pub mod Singles
pub mod Machine
pub mod SectionFaults
pub mod ModuleNotes
pub mod CodeProgress
