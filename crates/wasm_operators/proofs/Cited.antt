-- What attributes of this crate name.
unfoldable pub use Rattle.wasm_operators_proposals.specs.WasmOperatorsPlain.Memories.{memarg_at}
