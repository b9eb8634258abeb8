use Rattle.std.proofs.Common.{◌∙◌, ℕ, Some, rules}
use Rattle.wasm_spec.specs.Values.{u32_at}
use Rattle.wasm_operators.specs.SeenLists.{GivesFront, items_left}
use Rattle.wasm_spec_side_tables.specs.SideTables.{to_label}
use Rattle.wasm_validator_side_notes.specs.TableViews.{shown}
use Rattle.wasm_validator_side_notes.proofs.BranchNotes.{goes_on}
use Rattle.wasm_validator_side_notes.proofs.table.SideTable.branch_to_each.Goals as goal

pub labels-preserved : goal.labels-preserved
labels-preserved g c =
    let given : GivesFront (items_left u32_at c.labels.left) (Some c.in-Some.label) (items_left u32_at c.next.new.self) = search rules in
    record {
      so_far = goes_on (g.T.WasmModuleResources.context c.args.validator.now.resources) c.args.validator.now.validator c.args.at (λ (n : ℕ). to_label n 1) _
          (items_left u32_at c.labels.left) (items_left u32_at c.next.new.self) c.in-Some.label (shown c.labels.self) (shown c.branch-self.new.self) c.labels.invariant.so_far given c.in_Ok-self.ensures.planned;
      operands = c.in_Ok-self.ensures.operands ∙ c.labels.invariant.operands;
    }
