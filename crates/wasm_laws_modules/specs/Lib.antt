pub use Rattle.wasm_laws_core.specs as WasmLawsCore
pub use Rattle.wasm_validator_items.specs.Maps
pub use Rattle.wasm_validator_items.specs.OnePassSections
pub mod Contexts
pub mod BodyContexts
pub mod Lists
pub mod Laws
