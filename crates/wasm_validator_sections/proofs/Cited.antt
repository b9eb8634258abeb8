-- What attributes here name of the crates below.
unfoldable pub use Rattle.wasm_spec.specs.BinaryModules.{import_at}
pub use Rattle.wasm_validator_items.proofs.SectionLoop.{adds_items}
