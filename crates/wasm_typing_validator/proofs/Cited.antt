-- What attributes here name of the crates below.
pub use Rattle.wasm_typing_families.proofs.WasmTypingBlocks.TableBranches.{empties}
pub use Rattle.wasm_typing_arity.proofs as WasmTypingArity
