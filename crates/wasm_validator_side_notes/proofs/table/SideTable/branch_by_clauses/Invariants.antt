use Rattle.std.proofs.Common.{◌≡◌, map, length}
use Rattle.wasm_operators.specs.Control.{catch_at}
use Rattle.wasm_operators.specs.Maps.{map_block}
use Rattle.wasm_operators.specs.SeenControl.{block_of}
use Rattle.wasm_operators.specs.SeenLists.{items_left}
use Rattle.wasm_validator_resources.specs.Answers.{written_index}
use Rattle.wasm_spec_side_tables.specs.SideTables.{catching_to, catch_label}
use Rattle.wasm_validator_side_notes.specs.TableViews.{shown, planned_in}
use Rattle.wasm_validator_side_notes.proofs.table.SideTable.branch_by_clauses.Given as goal

abbrev pub invariant-clauses : goal.invariant-clauses
invariant-clauses g l = record {
  so_far :
      planned_in (g.T.WasmModuleResources.context l.validator.resources) l.validator.validator l.at (map (λ c. catching_to (map_block written_index (block_of l.fn.table.ty)) (catch_label c)) (items_left catch_at l.initial.left)) (shown l.initial.self)
      ≡ planned_in (g.T.WasmModuleResources.context l.validator.resources) l.validator.validator l.at (map (λ c. catching_to (map_block written_index (block_of l.fn.table.ty)) (catch_label c)) (items_left catch_at l.left)) (shown l.self);
  operands : l.self.operands ≡ l.initial.self.operands;
}

abbrev pub decreases-clauses : goal.decreases-clauses
decreases-clauses g l = length (items_left catch_at l.left)
