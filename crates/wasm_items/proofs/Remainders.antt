-- Less is left behind what was read.
pub use Rattle.wasm_operators.proofs.ExpressionEnds.{shorter}
