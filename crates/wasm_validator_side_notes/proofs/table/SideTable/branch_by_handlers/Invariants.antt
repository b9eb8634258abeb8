use Rattle.std.proofs.Common.{◌≡◌, length}
use Rattle.wasm_operators.specs.Continuations.{handle_at}
use Rattle.wasm_operators.specs.SeenLists.{items_left}
use Rattle.wasm_spec_steps.specs.Actions.{OperandTypes}
use Rattle.wasm_spec_side_tables.specs.SideTables.{handle_branches}
use Rattle.wasm_validator_side_notes.specs.TableViews.{shown, planned_in}
use Rattle.wasm_validator_side_notes.specs.ResumeOperands.{AreSoMany}
use Rattle.wasm_validator_side_notes.proofs.table.SideTable.branch_by_handlers.Given as goal

abbrev pub invariant-handlers : goal.invariant-handlers
invariant-handlers g l = record {
  so_far : (t : OperandTypes) → AreSoMany (g.T.WasmModuleResources.context l.validator.resources) l.validator.validator t l.taken
      → planned_in (g.T.WasmModuleResources.context l.validator.resources) l.validator.validator l.at (handle_branches t (items_left handle_at l.initial.left)) (shown l.initial.self)
      ≡ planned_in (g.T.WasmModuleResources.context l.validator.resources) l.validator.validator l.at (handle_branches t (items_left handle_at l.left)) (shown l.self);
  operands : l.self.operands ≡ l.initial.self.operands;
}

abbrev pub decreases-handlers : goal.decreases-handlers
decreases-handlers g l = length (items_left handle_at l.left)
