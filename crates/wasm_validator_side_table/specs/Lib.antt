pub use Rattle.wasm_validator_side_notes.specs as WasmValidatorSideNotes
pub mod Answers
