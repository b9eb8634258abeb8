-- What attributes name of the crate below.
pub use Rattle.wasm_validator_states.proofs.ShownTypeIds.{answer_held}
