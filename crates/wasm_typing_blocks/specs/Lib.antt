pub use Rattle.wasm_typing_control.specs.WasmTypingChecks as WasmTypingChecks
pub mod WrittenOperators
pub mod KnownBlockTypes
pub mod ExceptionOperands
pub mod FrameKinds
pub mod Legacy
pub mod BranchTargets
