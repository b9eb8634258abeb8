use Rattle.std.proofs.Common.{◌∙◌, Some, rules}
use Rattle.wasm_operators.specs.Control.{catch_at}
use Rattle.wasm_operators.specs.Maps.{map_block}
use Rattle.wasm_operators.specs.SeenControl.{block_of}
use Rattle.wasm_operators.specs.SeenLists.{GivesFront, items_left}
use Rattle.wasm_operators.specs.declared.control.Catch.{Catch}
use Rattle.wasm_validator_resources.specs.Answers.{written_index}
use Rattle.wasm_spec_side_tables.specs.SideTables.{catching_to, catch_label}
use Rattle.wasm_validator_side_notes.specs.TableViews.{shown}
use Rattle.wasm_validator_side_notes.proofs.BranchNotes.{goes_on}
use Rattle.wasm_validator_side_notes.proofs.table.SideTable.branch_by_clauses.Goals as goal

pub clauses-preserved : goal.clauses-preserved
clauses-preserved g c =
    let given : GivesFront (items_left catch_at c.clauses.left) (Some c.in-Some.clause) (items_left catch_at c.next.new.self) = search rules in
    record {
      so_far = goes_on (g.T.WasmModuleResources.context c.args.validator.now.resources) c.args.validator.now.validator c.args.at (λ (x : Catch). catching_to (map_block written_index (block_of c.args.table.ty)) (catch_label x)) _
          (items_left catch_at c.clauses.left) (items_left catch_at c.next.new.self) c.in-Some.clause (shown c.clauses.self) (shown c.branch_by_clause.new.self) c.clauses.invariant.so_far given c.in-Ok.ensures.planned;
      operands = c.in-Ok.ensures.operands ∙ c.clauses.invariant.operands;
    }
