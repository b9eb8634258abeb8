use Rattle.std.proofs.Common.{rules, ◌∙◌, ap}
use Rattle.wasm_validator_resources.specs.WasmReadersTypes.WasmReadersValues.SeenValues.{val_of}
use Rattle.wasm_typing_stacks.specs.SeenTypeWords.{val_in}
use Rattle.wasm_validator_resources.specs.Answers.{world}
use Rattle.wasm_typing_stacks.specs.BodyStacks.{state_of, below}
use Rattle.wasm_typing_checks.proofs.OperandLists.{next_not_popped, next_popped}
use Rattle.wasm_typing_checks.proofs.looks.check_many.Goals as goal

pub returns-in_err-taken : goal.returns-in_err-taken
returns-in_err-taken g c =
    let e =
    next_not_popped (world (g.T.WasmModuleResources.context c.args.resources.now)) c.args.types.now c.checking.i c.index-types-count.result (val_in c.new.result) (below c.args.taken (state_of c.args.stacks.now))
    (below c.checking.taken (state_of c.args.stacks.now)) c.checking-test.true (c.new.ensures ∙ ap val_of c.index-types-count.is) c.checking.invariant.so_far c.in_err-taken.ensures.checked in
    search rules

pub checking-preserved : goal.checking-preserved
checking-preserved g c = record {
  so_far =
      next_popped (world (g.T.WasmModuleResources.context c.args.resources.now)) c.args.types.now c.checking.i c.index-types-count.result (val_in c.new.result) (below c.args.taken (state_of c.args.stacks.now))
      (below c.checking.taken (state_of c.args.stacks.now)) (below c.in_ok-taken.taken (state_of c.args.stacks.now)) c.checking-test.true (c.new.ensures ∙ ap val_of c.index-types-count.is) c.checking.invariant.so_far
      c.in_ok-taken.ensures.checked.0;
  there = c.in_ok-taken.ensures.checked.1;
  matched = c.in_ok-taken.ensures.kept;
}
