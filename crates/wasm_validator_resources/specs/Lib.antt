pub use Rattle.wasm_readers_errors.specs.WasmSpec as WasmSpec
pub use Rattle.wasm_readers_types.specs as WasmReadersTypes
pub use Rattle.wasm_readers_errors.specs as WasmReadersErrors
pub use Rattle.wasm_spec_rules.specs as WasmSpecRules
pub mod AllowedComposites
pub mod Refusals
pub mod ProposalRefusals
pub mod Answers
