pub use Rattle.wasm_operators.specs as WasmOperators
pub use Rattle.wasm_spec_steps.specs as WasmSpecSteps
pub mod Expressions
pub mod Typing
pub mod Modules
pub mod Laws
pub mod Examples
pub mod OtherContexts
pub mod Renaming
pub mod OneToOne
