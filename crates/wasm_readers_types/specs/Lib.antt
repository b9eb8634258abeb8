pub use Rattle.wasm_readers_values.specs.WasmSpec as WasmSpec
pub use Rattle.wasm_readers_values.specs as WasmReadersValues
pub mod SeenTypes
pub mod TypesExact
pub mod TypesFaithful
pub mod SeenExterns
pub mod ExternsExact
pub mod Entities
pub mod SyntaxEquality
pub mod Texts
