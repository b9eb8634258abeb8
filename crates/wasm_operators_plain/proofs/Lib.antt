pub use Rattle.wasm_readers.proofs.WasmSpec as WasmSpec
pub mod NumericOpcodes
pub mod OpcodeSignatures
pub mod AccessOpcodes
pub mod Fronts
pub mod ByIndices
