use Rattle.wasm_typing_numbers.specs.WasmTypingChecks.WasmValidatorResources.Answers.{world}
use Rattle.wasm_typing_numbers.specs.WasmTypingChecks.WasmTypingStacks.BodyStacks.{state_of, below}
use Rattle.wasm_typing_numbers.specs.WasmTypingChecks.WasmTypingStacks.SeenTypeWords.{val_in}
use Rattle.wasm_typing_control.specs.FastSteps.{Fast}
use Rattle.wasm_typing_control.proofs.KnownOperands.{one_taken}
use Rattle.wasm_typing_control.proofs.known.take_known.Goals as goal

pub returns-clause-took : goal.returns-clause-took
unfolding Fast
returns-clause-took g c =
    one_taken (world (g.T.WasmModuleResources.context c.args.resources.now)) (val_in c.args.takes) (state_of c.args.stacks.now) (below 1 (state_of c.args.stacks.now)) _ c.in_ok-peek.ensures.popped c.take.ensures.state
