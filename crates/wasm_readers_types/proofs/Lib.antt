pub use Rattle.wasm_readers_values.proofs.WasmSpec as WasmSpec
pub mod Clones
pub mod MatchingMemories
mod Texts
