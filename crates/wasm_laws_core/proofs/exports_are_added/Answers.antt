use Rattle.wasm_laws_core.proofs.AddedExports.{exports_are_added, exports_are_added_behind}
use Rattle.wasm_laws_core.proofs.exports_are_added.Goals as goal

pub returns-clause-all : goal.returns-clause-all
returns-clause-all c = exports_are_added

pub returns-clause-behind : goal.returns-clause-behind
returns-clause-behind c = exports_are_added_behind
