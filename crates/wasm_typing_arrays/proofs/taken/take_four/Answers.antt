use Rattle.std.proofs.Common.{refl}
use Rattle.wasm_typing_checks.specs.WasmTypingStacks.SeenTypeWords.{val_in}
use Rattle.wasm_typing_checks.specs.WasmValidatorResources.Answers.{world}
use Rattle.wasm_typing_checks.specs.WasmTypingStacks.BodyStacks.{state_of, below}
use Rattle.wasm_typing_checks.specs.Steps.{Took}
use Rattle.wasm_typing_arrays.proofs.ManyOperands.{lowest_missing, four_taken}
use Rattle.wasm_typing_arrays.proofs.taken.take_four.Goals as goal

pub returns-in-Err-check_type-clause-took : goal.returns-in-Err-check_type-clause-took
unfolding Took
returns-in-Err-check_type-clause-took g c = (
  lowest_missing (world (g.T.WasmModuleResources.context c.args.resources.now)) (val_in c.args.first) (val_in c.args.second) (val_in c.args.third)
      (val_in c.args.fourth) (state_of c.args.stacks.now) (below c.in-Ok.upper (state_of c.args.stacks.now))
      c.in-Ok.ensures.0 c.in-Err-check_type.ensures,
  refl,
)

pub returns-clause-took : goal.returns-clause-took
unfolding Took
returns-clause-took g c =
    four_taken (world (g.T.WasmModuleResources.context c.args.resources.now)) (val_in c.args.first) (val_in c.args.second) (val_in c.args.third)
    (val_in c.args.fourth) (state_of c.args.stacks.now) (below c.in-Ok.upper (state_of c.args.stacks.now))
    (below c.in-Ok-check_type.taken (state_of c.args.stacks.now)) _ c.in-Ok.ensures.0 c.in-Ok-check_type.ensures.0 c.take.ensures.state
