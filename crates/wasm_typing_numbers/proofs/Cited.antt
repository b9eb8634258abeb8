-- What attributes here name of the crates below.
pub use Rattle.wasm_typing_checks.proofs.ActionSteps.{acts}
pub use Rattle.wasm_typing_checks.proofs.TypeLookups.{types, memories}
