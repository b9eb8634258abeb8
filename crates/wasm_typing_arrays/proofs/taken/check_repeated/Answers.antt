use Rattle.std.proofs.Common.{rules, ap}
use Rattle.wasm_typing_checks.specs.WasmTypingStacks.SeenTypeWords.{val_in}
use Rattle.wasm_typing_checks.specs.WasmValidatorResources.Answers.{world}
use Rattle.wasm_typing_checks.specs.WasmTypingStacks.BodyStacks.{state_of, below}
use Rattle.wasm_typing_arrays.proofs.LikeOperands.{next_missing, all_popped}
use Rattle.wasm_typing_arrays.proofs.taken.check_repeated.Goals as goal

pub returns-in_err-next : goal.returns-in_err-next
returns-in_err-next g c =
    let e =
    next_missing (world (g.T.WasmModuleResources.context c.args.resources.now)) (val_in c.args.ty) c.args.count c.repeating.i
    (state_of c.args.stacks.now) (below c.repeating.taken (state_of c.args.stacks.now))
    c.repeating-test.true c.repeating.invariant.so_far c.in_err-next.ensures in
    search rules

pub returns-then-next-taken : goal.returns-then-next-taken
returns-then-next-taken g c = (
  all_popped (world (g.T.WasmModuleResources.context c.args.resources.now)) (val_in c.args.ty) c.args.count c.repeating.i (state_of c.args.stacks.now)
      (below c.repeating.taken (state_of c.args.stacks.now)) (below c.in_ok-next.next (state_of c.args.stacks.now))
      c.repeating-test.true c.repeating.invariant.so_far c.in_ok-next.ensures.0 (ap (λ k. below k (state_of c.args.stacks.now)) c.if-next-taken.true),
  c.repeating.invariant.there,
)
