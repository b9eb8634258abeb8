use Rattle.wasm_laws_core.proofs.AddedDefinitions.{functions_are_added, tables_are_added, memories_are_added, tags_are_added}
use Rattle.wasm_laws_core.proofs.definitions_are_added.Goals as goal

pub returns-clause-functions : goal.returns-clause-functions
returns-clause-functions c = functions_are_added

pub returns-clause-tables : goal.returns-clause-tables
returns-clause-tables c = tables_are_added

pub returns-clause-memories : goal.returns-clause-memories
returns-clause-memories c = memories_are_added

pub returns-clause-tags : goal.returns-clause-tags
returns-clause-tags c = tags_are_added
