use Rattle.std.proofs.Common.{◌∙◌, Some, rules}
use Rattle.wasm_operators.specs.Continuations.{handle_at}
use Rattle.wasm_operators.specs.SeenLists.{GivesFront, items_left}
use Rattle.wasm_validator_side_notes.specs.TableViews.{shown}
use Rattle.wasm_validator_side_notes.proofs.HandlerNotes.{goes_on}
use Rattle.wasm_validator_side_notes.proofs.table.SideTable.branch_by_handlers.Goals as goal

pub handlers-preserved : goal.handlers-preserved
handlers-preserved g c =
    let given : GivesFront (items_left handle_at c.handlers.left) (Some c.in-Some.handler) (items_left handle_at c.next.new.self) = search rules in
    record {
      so_far = λ t h.
          goes_on (g.T.WasmModuleResources.context c.args.validator.now.resources) c.args.validator.now.validator c.args.at t _ (items_left handle_at c.handlers.left) (items_left handle_at c.next.new.self) c.in-Some.handler
          (shown c.handlers.self) (shown c.branch_by_handler.new.self) (c.handlers.invariant.so_far t h) given (c.in-Ok.ensures.planned t h);
      operands = c.in-Ok.ensures.operands ∙ c.handlers.invariant.operands;
    }
