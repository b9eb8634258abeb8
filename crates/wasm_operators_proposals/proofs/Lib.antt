pub use Rattle.wasm_operators_plain.proofs as WasmOperatorsPlain
pub mod ListReads
pub mod Fronts
