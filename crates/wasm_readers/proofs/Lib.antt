pub use Rattle.wasm_readers_bytes.proofs.WasmSpec as WasmSpec
pub mod Loops
pub mod Tables
pub mod Cited
