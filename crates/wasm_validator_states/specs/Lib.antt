pub use Rattle.wasm_spec_validity.specs as WasmSpecValidity
pub use Rattle.wasm_parser.specs as WasmParser
pub use Rattle.wasm_validator_type_list.specs as WasmValidatorTypeList
pub use Rattle.wasm_validator_types.specs as WasmValidatorTypes
pub use Rattle.wasm_validator_canonical.specs as WasmValidatorCanonical
pub use Rattle.wasm_validator_sections.specs as WasmValidatorSections
pub use Rattle.wasm_validator_sections.specs.WasmValidatorCore as WasmValidatorCore
pub mod MaybeOwnedValues
pub mod MaybeOwnedFields
pub mod LentValues
pub mod LentInners
pub mod ValidatorStages
pub mod States
pub mod ShownModules
pub mod Payloads
pub mod Verdict
pub mod PayloadVerdicts
pub mod Sequences
pub mod Table
pub mod SectionLaws
pub mod Views
pub mod ModuleInvariants
pub mod BodyAnswers
pub mod OrderRefusals
