-- What attributes here name of the crates below, and of another file where a line would be too wide.
pub use Rattle.wasm_typing_references.proofs.WasmTypingChecks.ActionSteps.{acts}
pub use Rattle.wasm_typing_references.proofs.WrittenHeapTypes.{written}
pub use Rattle.wasm_typing_casts.proofs.DescriptorTypes.{describes}
