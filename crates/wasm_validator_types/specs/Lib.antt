pub use Rattle.wasm_validator_type_list.specs as WasmValidatorTypeList
pub use Rattle.wasm_readers.specs.WasmReadersTypes.Entities as Entities
pub mod Spaces
pub mod SpacesSeen
pub mod Rows
pub mod IteratorItems
pub mod NameKeys
pub mod NamedEntities
pub mod ShownModules
