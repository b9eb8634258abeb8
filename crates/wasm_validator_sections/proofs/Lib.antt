pub use Rattle.wasm_validator_items.proofs.WasmValidatorCoreResources as WasmValidatorCoreResources
pub use Rattle.wasm_validator_items.proofs.WasmValidatorReferences as WasmValidatorReferences
pub use Rattle.wasm_validator_items.proofs.WasmValidatorCore.WasmValidatorChecks as WasmValidatorChecks
pub use Rattle.wasm_laws_modules.proofs.WasmLawsCore as WasmLawsCore
pub use Rattle.wasm_laws_modules.proofs as WasmLawsModules
pub mod Cited
pub mod Singles
pub mod ItemSteps
pub mod ConstantSections
pub mod PlainSections
pub mod ExportAnswers
pub mod Forms
pub mod ItemReads
pub mod SectionEntries
pub mod GroupGrowth
pub mod ImportEntries
pub mod EntryTurns
