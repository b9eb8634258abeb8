pub use Rattle.wasm_spec.proofs as WasmSpec
pub mod NumberBytes
