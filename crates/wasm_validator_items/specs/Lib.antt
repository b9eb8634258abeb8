pub use Rattle.wasm_validator_segments.specs.WasmValidatorReferences as WasmValidatorReferences
pub use Rattle.wasm_validator_core_resources.specs as WasmValidatorCoreResources
pub use Rattle.wasm_validator_core.specs as WasmValidatorCore
pub use Rattle.wasm_validator_segments.specs.Expressions
pub mod Machine
pub mod Answers
pub mod SectionRefusals
pub mod ItemSteps
pub mod Sections
pub mod Entries
pub mod Items
pub mod Maps
pub mod OnePassSections
