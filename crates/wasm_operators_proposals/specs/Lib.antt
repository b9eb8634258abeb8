pub use Rattle.wasm_operators_plain.specs as WasmOperatorsPlain
pub use Rattle.wasm_operators_atomic.specs as WasmOperatorsAtomic
pub mod SeenLists
pub mod Accesses
pub mod Continuations
pub mod SeenContinuations
