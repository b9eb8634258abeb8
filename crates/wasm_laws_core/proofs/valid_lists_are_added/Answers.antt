use Rattle.wasm_laws_core.proofs.AllLists.{valid_lists_are_added}
use Rattle.wasm_laws_core.proofs.valid_lists_are_added.Goals as goal

pub returns : goal.returns
returns c = valid_lists_are_added
