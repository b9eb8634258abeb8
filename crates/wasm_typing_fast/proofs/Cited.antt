-- What attributes here name of the crates below.
pub use Rattle.wasm_typing_control.proofs.WasmTypingChecks.TypeLookups.{memories}
pub use Rattle.wasm_typing_control.proofs.WasmTypingChecks.TypeLookups.{types}
pub use Rattle.wasm_typing_control.proofs.GlobalLookups.{globals}
