use Rattle.std.proofs.Common.{rules, ℕ, List, sym, subst, arith}
use Rattle.wasm_readers.specs.WasmReadersBytes.Reader.{rest}
use Rattle.wasm_typing_validator.specs.Labels.{Lists}
use Rattle.wasm_typing_validator.proofs.BranchTables.{none_listed, one_listed}
use Rattle.wasm_typing_validator.proofs.labels.pass_labels.Goals as goal

pub passing-preserved : goal.passing-preserved
passing-preserved g c = record {
  same = search rules;
  onward = omega arith;
  listed = λ more ls. c.passing.invariant.listed more
      (one_listed c.args.stacks.now (g.T.WasmModuleResources.context c.args.resources.now) c.passing.left c.in_ok-next_label.field-0 (rest c.passing.ahead) (rest c.next_label.new.reader) more (omega arith)
      c.in_ok-next_label.ensures.read c.in_ok-next_label.ensures.empty ls);
}

pub returns-clause-ok : goal.returns-clause-ok
returns-clause-ok g c =
    subst (λ (m : List ℕ). Lists c.args.stacks.now (g.T.WasmModuleResources.context c.args.resources.now) c.args.count (rest c.args.reader.now) m) (sym c.go_on_from.ensures.rest)
    (c.passing.invariant.listed (rest c.passing.ahead) (none_listed c.args.stacks.now (g.T.WasmModuleResources.context c.args.resources.now) c.passing.left (rest c.passing.ahead) (omega arith)))
