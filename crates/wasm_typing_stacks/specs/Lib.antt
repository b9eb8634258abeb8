pub use Rattle.wasm_operators_plain.specs as WasmOperatorsPlain
pub use Rattle.wasm_spec_steps.specs as WasmSpecSteps
pub mod TypeWords
pub mod SeenTypeWords
pub mod FlagSets
pub mod Locals
pub mod Words
pub mod SeenOperands
pub mod SeenBlocks
pub mod BodyStacks
