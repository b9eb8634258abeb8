use Rattle.std.proofs.Common.{◌∙◌, ℕ, map}
use Rattle.wasm_spec.specs.Values.{u32_at}
use Rattle.wasm_operators.specs.SeenLists.{listed}
use Rattle.wasm_spec_side_tables.specs.SideTables.{to_label}
use Rattle.wasm_validator_side_notes.specs.TableViews.{shown}
use Rattle.wasm_validator_side_notes.proofs.BranchNotes.{planned_last}
use Rattle.wasm_validator_side_notes.proofs.table.SideTable.branch_by_table.Goals as goal

pub returns-in_Ok-self-clause-planned : goal.returns-in_Ok-self-clause-planned
returns-in_Ok-self-clause-planned g c =
    planned_last (g.T.WasmModuleResources.context c.args.validator.now.resources) c.args.validator.now.validator c.args.at (map (λ (n : ℕ). to_label n 1) (listed u32_at c.args.table.targets)) (to_label c.args.table.default 1)
    (shown c.args.self.now) (shown c.branch_to_each.new.self) c.in-Ok.ensures.planned
    ∙ c.in_Ok-self.ensures.planned
