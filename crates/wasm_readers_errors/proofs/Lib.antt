pub use Rattle.wasm_readers_values.proofs.WasmSpec as WasmSpec
