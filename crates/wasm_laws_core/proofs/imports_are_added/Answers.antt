use Rattle.wasm_laws_core.proofs.AddedImports.{imports_are_added, one_import_is_added}
use Rattle.wasm_laws_core.proofs.imports_are_added.Goals as goal

pub returns-clause-all : goal.returns-clause-all
returns-clause-all c = imports_are_added

pub returns-clause-one : goal.returns-clause-one
returns-clause-one c = one_import_is_added
