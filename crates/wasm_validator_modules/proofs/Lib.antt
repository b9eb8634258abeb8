pub use Rattle.wasm_validator_states.proofs.WasmValidatorCanonical as WasmValidatorCanonical
pub use Rattle.wasm_validator_states.proofs.WasmLawsCore as WasmLawsCore
pub use Rattle.wasm_validator_states.proofs.ListGrowth
pub use Rattle.wasm_validator_states.proofs.Resets
pub use Rattle.wasm_validator_states.proofs.TableSteps
pub use Rattle.wasm_validator_states.proofs.ShownTypeIds
pub use Rattle.wasm_validator_states.proofs.UnmovedValidators
pub use Rattle.wasm_validator_states.proofs.ParserAndValidator
pub use Rattle.wasm_validator_states.proofs.ParserProgress
pub use Rattle.wasm_validator_states.proofs.UsedLaws
pub use Rattle.wasm_validator_states.proofs.WholeModules
pub mod Cited
pub mod Runs
pub mod Bodies
pub mod BodyPayloads
pub mod KeptContext
