pub use Rattle.wasm_operators_proposals.specs.WasmOperatorsPlain as WasmOperatorsPlain
pub mod References
pub mod SeenReferences
pub use Rattle.wasm_operators_proposals.specs.SeenLists as SeenLists
pub mod Control
pub mod SeenControl
pub use Rattle.wasm_operators_proposals.specs.WasmOperatorsAtomic as WasmOperatorsAtomic
pub mod FormImmediates
pub use Rattle.wasm_operators_proposals.specs.Continuations as Continuations
pub use Rattle.wasm_operators_proposals.specs.SeenContinuations as SeenContinuations
pub use Rattle.wasm_operators_proposals.specs as WasmOperatorsProposals
pub mod Legacy
pub mod SeenLegacy
pub mod Instructions
pub mod SeenOperators
pub mod Expressions
pub mod Maps
pub mod Laws
