-- What attributes here name of the crates below.
pub use Rattle.wasm_typing_numbers.proofs.WasmTypingChecks.ActionSteps.{acts}
pub use Rattle.wasm_typing_numbers.proofs.WasmTypingChecks.TypeLookups.{types}
unfoldable pub use Rattle.wasm_typing_numbers.specs.WasmTypingChecks.Steps.{Took}
pub use Rattle.wasm_typing_numbers.proofs.WasmTypingChecks.OperandExchanges.{two}
pub use Rattle.wasm_typing_numbers.proofs.WasmTypingChecks.OperandLists.{list_checks}
