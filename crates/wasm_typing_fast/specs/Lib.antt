pub use Rattle.wasm_typing_control.specs as WasmTypingControl
pub use Rattle.wasm_operators.specs as WasmOperators
pub use Rattle.wasm_operators_plain.specs as WasmOperatorsPlain
pub use Rattle.wasm_readers_bytes.specs as WasmReadersBytes
pub use Rattle.wasm_readers_types.specs.WasmReadersValues as WasmReadersValues
pub use Rattle.wasm_spec.specs as WasmSpec
pub mod Blocks
pub mod SignedNumbers
