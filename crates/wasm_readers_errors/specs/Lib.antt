pub use Rattle.wasm_readers_values.specs.WasmSpec as WasmSpec
pub use Rattle.wasm_readers_features.specs as WasmReadersFeatures
pub mod Errors
pub mod Refusals
pub use Rattle.wasm_readers_features.specs.LiftingProposals as LiftingProposals
