pub use Rattle.wasm_validator_canonical.proofs as WasmValidatorCanonical
pub mod ListedTypes
pub mod ListedArities
pub mod ItemTests
pub mod Arities
pub mod AcceptedItems
