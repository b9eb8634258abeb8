pub use Rattle.wasm_spec_validity.proofs as WasmSpecValidity
pub mod FunctionNotes
pub mod Marks
pub mod Constants
pub mod EntryPieces
pub mod SectionPieces
pub mod Pieces
pub mod Parts
pub mod PieceReferences
