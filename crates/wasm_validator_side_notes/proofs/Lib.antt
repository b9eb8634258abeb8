pub use Rattle.wasm_spec_side_tables.proofs as WasmSpecSideTables
pub use Rattle.wasm_validator_func.proofs.WasmTypingValidator as WasmTypingValidator
pub use Rattle.wasm_validator_func.proofs as WasmValidatorFunc
pub mod OpenedBlocks
pub mod BranchNotes
pub mod Opcodes
pub mod NextInstructions
pub mod FirstBytes
pub mod ToldBytes
pub mod LabelsKept
pub mod InstructionBytes
pub mod ToldNotes
pub mod LabelNotes
pub mod HandlerNotes
pub mod ResumeArities
