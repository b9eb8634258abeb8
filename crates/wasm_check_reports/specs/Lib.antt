pub use Rattle.wasm_validate_files.specs as WasmValidateFiles
pub mod Counts
pub mod Places
pub mod Summaries
pub mod Verdicts
pub mod Lines
pub mod ItemWords
