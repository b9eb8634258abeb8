use Rattle.wasm_laws_core.proofs.GroupTrees.{groups_are_recursive_types}
use Rattle.wasm_laws_core.proofs.groups_are_recursive_types.Goals as goal

pub returns : goal.returns
returns g c = groups_are_recursive_types
