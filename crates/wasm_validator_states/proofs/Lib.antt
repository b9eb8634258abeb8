pub use Rattle.wasm_parser.proofs as WasmParser
pub use Rattle.wasm_validator_canonical.proofs as WasmValidatorCanonical
pub use Rattle.wasm_validator_sections.proofs as WasmValidatorSections
pub use Rattle.wasm_validator_sections.proofs.WasmLawsCore as WasmLawsCore
pub mod ListGrowth
pub mod ValidTypes
pub mod AddedTypes
pub mod ModuleRun
pub mod SectionLists
pub mod KnownSections
pub mod FramedParts
pub mod ValidRules
pub mod UsedLaws
pub mod RunOfParts
pub mod CodeOrder
pub mod PieceRuns
pub mod TypedBodies
pub mod ValidModules
pub mod WholeModules
pub mod Sequences
pub mod OwnIds
pub mod Resets
pub mod TableSteps
pub mod SectionLaws
pub mod EntriesAdded
pub mod ImportsAdded
pub mod ExportsAdded
pub mod TypesAdded
pub mod ShownTypeIds
pub mod ParserProgress
pub mod KeptTypes
pub mod DistinctTypes
pub mod OpenModules
pub mod SectionMoves
pub mod SectionAnswers
pub mod ParserAndValidator
pub mod UnmovedValidators
