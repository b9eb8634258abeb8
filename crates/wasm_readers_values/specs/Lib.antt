pub use Rattle.wasm_spec.specs as WasmSpec
pub mod Exactness
pub mod Indices
pub mod IndicesExact
pub mod SeenValues
pub mod ValuesExact
pub mod ValuesApart
pub mod Texts
