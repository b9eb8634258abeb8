pub use Rattle.wasm_readers_errors.proofs.WasmSpec as WasmSpec
pub mod Texts
pub mod Powers
