use Rattle.wasm_validator_resources.specs.Answers.{world}
use Rattle.wasm_typing_stacks.specs.BodyStacks.{state_of, below}
use Rattle.wasm_typing_checks.specs.Steps.{Took}
use Rattle.wasm_typing_checks.specs.SeenTypes.{types_seen, takes_seen}
use Rattle.wasm_typing_checks.proofs.OperandExchanges.{are_exchanged}
use Rattle.wasm_typing_checks.proofs.steps.plain.Goals as goal

pub returns-in-Ok-exchange_types-clause-took : goal.returns-in-Ok-exchange_types-clause-took
unfolding Took
returns-in-Ok-exchange_types-clause-took g c =
    are_exchanged (world (g.T.WasmModuleResources.context c.args.resources.now)) (takes_seen c.args.takes) (types_seen c.args.gives) (state_of c.args.stacks.now) (below c.in-Ok.taken (state_of c.args.stacks.now))
    (state_of c.exchange_types.new.stacks) c.in-Ok.ensures.0 c.in-Ok-exchange_types.ensures.ok
