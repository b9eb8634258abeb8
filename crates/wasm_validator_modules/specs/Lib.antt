pub use Rattle.wasm_validator_states.specs.WasmValidatorTypes as WasmValidatorTypes
pub use Rattle.wasm_validator_states.specs.WasmSpecValidity as WasmSpecValidity
pub use Rattle.wasm_validator_states.specs.WasmValidatorCanonical as WasmValidatorCanonical
pub use Rattle.wasm_validator_states.specs.WasmValidatorCore as WasmValidatorCore
pub use Rattle.wasm_validator_states.specs.ValidatorStages
pub use Rattle.wasm_validator_states.specs.States
pub use Rattle.wasm_validator_states.specs.ShownModules
pub use Rattle.wasm_validator_states.specs.Payloads
pub use Rattle.wasm_validator_states.specs.Verdict
pub use Rattle.wasm_validator_states.specs.Sequences
pub use Rattle.wasm_validator_states.specs.Table
pub use Rattle.wasm_validator_states.specs.BodyAnswers
pub mod Codes
pub mod Views
pub mod ValidatorInvariants
pub mod PayloadAnswers
