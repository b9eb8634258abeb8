pub use Rattle.wasm_typing_references.specs.WrittenReferences as WrittenReferences
pub mod WrittenCasts
pub mod Tops
pub mod BranchOperands
pub mod CastDescriptors
