-- What attributes here name of the crates below.
pub use Rattle.wasm_typing_control.proofs.WasmTypingChecks.ActionSteps.{acts}
