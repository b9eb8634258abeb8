pub use Rattle.wasm_validate_files.proofs as WasmValidateFiles
mod VerdictObjects
