-- What a module shows names ids of its types only.
use Rattle.std.specs.Prelude.{ℕ, ◌≡◌, ◌<◌, List, length}
use Rattle.std.specs.List.{All}
use Rattle.wasm_spec.specs.Syntax.{Ref, Table, Global}
use Rattle.wasm_spec.specs.References.{refs_heap, refs_val}
use Rattle.wasm_spec.specs.Features.{Features}
use Rattle.wasm_spec.specs.Trees.{DefType}
use Rattle.wasm_spec_rules.specs.Parts.{Parts}
use Rattle.wasm_spec_rules.specs.IndexSpaces.{index_spaces}
use Rattle.wasm_spec_rules.specs.Modules.{AreValidParts}
use Rattle.wasm_readers_types.specs.WasmReadersValues.declared.indices.UnpackedIndex.{UnpackedIndex}
use Rattle.wasm_readers_types.specs.Entities.{Entity, IsIdOfOne, IsEntityOver}
use Rattle.wasm_validator_types.specs.Rows.{all_imports}
use Rattle.wasm_validator_types.specs.Spaces.{Spaces}
use Rattle.wasm_laws_core.specs.ModuleParts.{spaces_of}

-- each reference in the types of tables, of globals and of element segments is the id of one of so many types, and so is each in the types of
-- imports and exports
pub record AreOver (types : ℕ) (s : Spaces) : Type 0 where
  pub tables : All (λ (t : Table UnpackedIndex). All (IsIdOfOne types) (refs_heap t.element.heap)) s.tables
  pub globals : All (λ (g : Global UnpackedIndex). All (IsIdOfOne types) (refs_val g.content)) s.globals
  pub elements : All (λ (r : Ref UnpackedIndex). All (IsIdOfOne types) (refs_heap r.heap)) s.elements
  pub imports : All (λ (i : List ℕ × List ℕ × Entity). IsEntityOver types i.2) (all_imports s.imports)
  pub exports : All (λ (e : List ℕ × Entity). IsEntityOver types e.1) s.exports

-- Where the parts of a module are valid, and the ids of its types are below a number, all types that its state shows name ids below it.
abbrev pub ShownTypesAreHeld : Type 0
ShownTypesAreHeld =
    (F : Features) (types : List DefType) (ids : List ℕ) (parts : Parts) (n : ℕ) → length types ≡ length ids → All (λ id. id < n) ids → AreValidParts F (index_spaces types parts) parts
    → AreOver n (spaces_of F types ids parts)
