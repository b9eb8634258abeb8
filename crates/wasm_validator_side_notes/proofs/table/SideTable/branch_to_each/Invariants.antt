use Rattle.std.proofs.Common.{◌≡◌, map, length}
use Rattle.wasm_spec.specs.Values.{u32_at}
use Rattle.wasm_operators.specs.SeenLists.{items_left}
use Rattle.wasm_spec_side_tables.specs.SideTables.{to_label}
use Rattle.wasm_validator_side_notes.specs.TableViews.{shown, planned_in}
use Rattle.wasm_validator_side_notes.proofs.table.SideTable.branch_to_each.Given as goal

abbrev pub invariant-labels : goal.invariant-labels
invariant-labels g l = record {
  so_far : planned_in (g.T.WasmModuleResources.context l.validator.resources) l.validator.validator l.at (map (λ n. to_label n 1) (items_left u32_at l.initial.left)) (shown l.initial.self)
      ≡ planned_in (g.T.WasmModuleResources.context l.validator.resources) l.validator.validator l.at (map (λ n. to_label n 1) (items_left u32_at l.left)) (shown l.self);
  operands : l.self.operands ≡ l.initial.self.operands;
}

abbrev pub decreases-labels : goal.decreases-labels
decreases-labels g l = length (items_left u32_at l.left)
