-- What the iterators over imports and exports have left.
use Rattle.std.specs.Prelude.{ℕ, List, ◌++◌, map}
use Rattle.wasm_validator_types.specs.declared.imports_exports.CoreImports.{CoreImports}
use Rattle.wasm_validator_types.specs.declared.imports_exports.CoreExports.{CoreExports}
use Rattle.wasm_validator_types.specs.Entities.{Entity, entity_of}
use Rattle.wasm_validator_types.specs.Rows.{import_rows, all_imports}
use Rattle.wasm_validator_types.specs.SpacesSeen.{shown_import, shown_export}

module _ {A : Type 0} where
  abbrev pub imports_left : CoreImports A → List (List ℕ × List ℕ × Entity)
  imports_left s = import_rows s.source.now s.name.now (map entity_of s.entities.now) ++ all_imports (map shown_import s.pairs)

  abbrev pub exports_left : CoreExports A → List (List ℕ × Entity)
  exports_left s = map shown_export s.entries
