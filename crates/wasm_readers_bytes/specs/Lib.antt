pub use Rattle.wasm_readers_errors.specs.WasmSpec as WasmSpec
pub use Rattle.wasm_readers_errors.specs as WasmReadersErrors
pub mod Reader
