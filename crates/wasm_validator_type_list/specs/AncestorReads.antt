-- The supertype links and entries of lists of ancestors that are read to see whether one type is below another.
pub use Rattle.wasm_validator_type_ancestors.specs.ReadCounts.{Counts}
