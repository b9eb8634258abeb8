pub use Rattle.wasm_spec_steps.proofs as WasmSpecSteps
pub mod FirstAppearances
pub mod PlainModules
pub mod InstructionCuts
pub mod Frames
pub mod WholeExpressions
pub mod ExpressionTests
pub mod ExpressionNames
pub mod Examples
pub mod References
pub mod ModuleExamples
pub mod ConstantContexts
pub mod ConstantRenamings
pub mod ContextWorlds
pub mod RenamedBodies
pub mod OneToOne
