use Rattle.std.proofs.Common.{arith, rules, tests}
use Rattle.wasm_readers.specs.WasmReadersBytes.Reader.{rest}
use Rattle.wasm_validator_func.specs.WasmTypingValidator.BodyTyping.{typed_state}
use Rattle.wasm_validator_side_notes.specs.TableViews.{shown}
use Rattle.wasm_validator_side_notes.specs.OperatorNotes.{IsBranchedTo}
use Rattle.wasm_validator_side_notes.proofs.LabelNotes.{one_more}
use Rattle.wasm_validator_side_notes.proofs.table.SideTable.add_labels.Goals as goal

pub labels-preserved : goal.labels-preserved
labels-preserved g c =
    let C = g.T.WasmModuleResources.context c.args.validator.now.resources in
    let s = typed_state c.args.validator.now.validator in
    let T = shown c.labels.self in
    let U = shown c.add_to.new.self in
    let added : IsBranchedTo C s c.args.at c.in-Some.label c.args.count T U = search (rules, tests) in
    record {
      same = search rules;
      so_far = λ more V a. c.labels.invariant.so_far more V
          (one_more C s c.args.at c.args.count c.labels.left c.in-Some.label (rest c.labels.ahead) (rest c.next_var_u32.new.self) more T U V (omega arith) c.in-Some.ensures.some added a);
    }
