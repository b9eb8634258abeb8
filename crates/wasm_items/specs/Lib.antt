pub use Rattle.wasm_readers.specs as WasmReaders
pub use Rattle.wasm_operators.specs as WasmOperators
pub mod SeenReaders
pub mod SeenItems
pub mod ItemExpressions
