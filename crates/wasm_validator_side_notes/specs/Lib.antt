pub use Rattle.wasm_spec_side_tables.specs as WasmSpecSideTables
pub use Rattle.wasm_validator_func.specs.WasmTypingValidator as WasmTypingValidator
pub use Rattle.wasm_validator_func.specs as WasmValidatorFunc
pub mod TableViews
pub mod Tables
pub mod OperatorNotes
pub mod ResumeOperands
pub mod LabelEntries
