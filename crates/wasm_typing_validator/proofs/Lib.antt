pub use Rattle.wasm_typing_arity.proofs as WasmTypingArity
pub mod LocalDefinitions
pub mod BodyStarts
pub mod LocalDeclarations
pub mod OffsetSteps
pub mod WrittenInstructions
pub mod ByteSteps
pub mod CodeSurroundings
pub mod FrameQueries
pub mod LabelCounts
pub mod Cited
pub mod UntakenSteps
pub mod BranchTables
pub mod ReadingFailures
