use Rattle.wasm_validator_side_notes.specs.TableViews.{shown}
use Rattle.wasm_validator_side_notes.proofs.HandlerNotes.{on_ok, handler_alone}
use Rattle.wasm_validator_side_notes.proofs.table.SideTable.branch_by_handler.Goals as goal

pub returns-in-Some-clause-planned : goal.returns-in-Some-clause-planned
returns-in-Some-clause-planned g c =
    on_ok c.add.result
    (λ added t h.
    handler_alone (g.T.WasmModuleResources.context c.args.validator.now.resources) c.args.validator.now.validator c.args.at t c.args.handler c.in-OnLabel.tag c.in-OnLabel.label (shown c.args.self.now) (shown c.add.new.self) c.in-Some.entry
    c.in-OnLabel.is (c.in-Some.ensures t h) added)
    c.add.ensures.added
