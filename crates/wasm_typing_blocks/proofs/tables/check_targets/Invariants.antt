use Rattle.std.proofs.Common.{◌≡◌, length}
use Rattle.wasm_spec.specs.Values.{u32_at}
use Rattle.wasm_operators.specs.SeenLists.{items_left}
use Rattle.wasm_typing_blocks.specs.BranchTargets.{fits, all_fit, LastPasses}
use Rattle.wasm_typing_blocks.proofs.tables.check_targets.Given as goal

abbrev pub invariant-checking : goal.invariant-checking
invariant-checking g l = record {
  fitting : all_fit l.stacks (g.T.WasmModuleResources.context l.resources) l.first l.wanted (items_left u32_at l.initial.left) ≡ all_fit l.stacks (g.T.WasmModuleResources.context l.resources) l.first l.wanted (items_left u32_at l.left);
  known : LastPasses (fits l.stacks (g.T.WasmModuleResources.context l.resources) l.first l.wanted) l.last;
}

abbrev pub decreases-checking : goal.decreases-checking
decreases-checking g l = length (items_left u32_at l.left)
