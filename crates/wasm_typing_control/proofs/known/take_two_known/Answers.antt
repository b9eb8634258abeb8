use Rattle.wasm_typing_numbers.specs.WasmTypingChecks.WasmValidatorResources.Answers.{world}
use Rattle.wasm_typing_numbers.specs.WasmTypingChecks.WasmTypingStacks.BodyStacks.{state_of, below}
use Rattle.wasm_typing_numbers.specs.WasmTypingChecks.WasmTypingStacks.SeenTypeWords.{val_in}
use Rattle.wasm_typing_control.specs.FastSteps.{Fast}
use Rattle.wasm_typing_control.proofs.KnownOperands.{two_taken}
use Rattle.wasm_typing_control.proofs.known.take_two_known.Goals as goal

pub returns-clause-took : goal.returns-clause-took
unfolding Fast
returns-clause-took g c =
    two_taken (world (g.T.WasmModuleResources.context c.args.resources.now)) (val_in c.args.first) (val_in c.args.second) (state_of c.args.stacks.now) (below 1 (state_of c.args.stacks.now)) (below 2 (state_of c.args.stacks.now)) _
    c.in_ok-peek-2.ensures.popped c.in_ok-peek.ensures.popped c.take.ensures.state
