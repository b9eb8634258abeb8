use Rattle.std.proofs.Common.{refl}
use Rattle.wasm_typing_stacks.specs.SeenTypeWords.{val_in}
use Rattle.wasm_validator_resources.specs.Answers.{world}
use Rattle.wasm_typing_stacks.specs.BodyStacks.{state_of, below}
use Rattle.wasm_typing_checks.specs.Steps.{Took}
use Rattle.wasm_typing_checks.specs.SeenTypes.{types_seen}
use Rattle.wasm_typing_checks.proofs.OperandExchanges.{rest_missing, all_exchanged}
use Rattle.wasm_typing_checks.proofs.steps.plain_with.Goals as goal

pub returns-in-Err-check_types-clause-took : goal.returns-in-Err-check_types-clause-took
unfolding Took
returns-in-Err-check_types-clause-took g c = (
  rest_missing (world (g.T.WasmModuleResources.context c.args.resources.now)) (types_seen c.args.takes) (types_seen c.args.gives) (val_in c.args.top) (state_of c.args.stacks.now) (below c.in-Ok.first (state_of c.args.stacks.now))
      c.in-Ok.ensures.0 c.in-Err-check_types.ensures,
  refl,
)

pub returns-in-Ok-exchange_types-clause-took : goal.returns-in-Ok-exchange_types-clause-took
unfolding Took
returns-in-Ok-exchange_types-clause-took g c =
    all_exchanged (world (g.T.WasmModuleResources.context c.args.resources.now)) (types_seen c.args.takes) (types_seen c.args.gives) (val_in c.args.top) (state_of c.args.stacks.now) (below c.in-Ok.first (state_of c.args.stacks.now))
    (below c.in-Ok-check_types.taken (state_of c.args.stacks.now)) (state_of c.exchange_types.new.stacks) c.in-Ok.ensures.0 c.in-Ok-check_types.ensures.0 c.in-Ok-exchange_types.ensures.ok
