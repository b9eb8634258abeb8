pub use Rattle.wasm_readers_errors.proofs.WasmSpec as WasmSpec
pub mod Tests
pub mod Verdicts
pub mod SectionRanks
pub mod FramedOrder
pub mod ModuleExamples
pub mod LimitLaws
pub mod Contexts
pub mod Totals
pub mod Counts
pub mod Bodies
