-- What the types of an accepted module show of it. Core Specification 3.0, Validation, Conventions, Contexts.
use Rattle.std.specs.Prelude.{ℕ, ◌≡◌, map, IsTrue}
use Rattle.std.specs.List.{AllZip, flat_map}
use Rattle.wasm_spec.specs.BinaryModules.{Import}
use Rattle.wasm_spec.specs.Features.{Features, canonical}
use Rattle.wasm_spec.specs.TypeLaws.{HasNoRepetition}
use Rattle.wasm_spec_rules.specs.Contexts.{exact_in}
use Rattle.wasm_spec_rules.specs.Parts.{Parts}
use Rattle.wasm_spec_rules.specs.IndexSpaces.{IndexSpaces}
use Rattle.wasm_validator_canonical.specs.Sections.{StandsFor}
use Rattle.wasm_validator_types.specs.Spaces.{Spaces}
use Rattle.wasm_validator_sections.specs.WasmValidatorCore.Answers.{TypesSoFar}
use Rattle.wasm_validator_sections.specs.WasmLawsCore.ModuleParts.{listed_table, listed_global, listed_element, import_rows, export_rows, exact_functions}

-- The list of types and the lists of a module show its index spaces: each type under an id that stands for it, in a
-- list where no type has two ids if equal types are one; each function and tag with its type's index, each imported function with whether it is
-- imported exactly, each table,
-- memory and global with its type, each element segment with the type of its items; the imports by pairs of names in
-- the order of their first appearance, all imports of a pair together; and the exports in their order.
pub record ShowModule (F : Features) (list : TypesSoFar) (spaces : Spaces) (C : IndexSpaces) (parts : Parts) : Type 0 where
  pub types : AllZip (StandsFor (canonical F) list) spaces.types C.types
  pub one_id : IsTrue (canonical F) → HasNoRepetition list
  pub functions : spaces.functions ≡ C.functions
  pub exactly : spaces.imported_functions ≡ flat_map (λ (i : Import ℕ). exact_in i.ty) parts.imports
  pub tables : spaces.tables ≡ map (listed_table spaces.types) C.tables
  pub memories : spaces.memories ≡ C.memories
  pub globals : spaces.globals ≡ map (listed_global spaces.types) C.globals
  pub tags : spaces.tags ≡ C.tags
  pub imports : spaces.imports ≡ import_rows spaces.types parts.imports
  pub exports : spaces.exports ≡ export_rows F spaces.types C (exact_functions parts) parts.exports
  pub elements : spaces.elements ≡ map (listed_element spaces.types) parts.elements
