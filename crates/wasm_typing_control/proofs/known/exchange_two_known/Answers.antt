use Rattle.std.proofs.Common.{◌∙◌, ap}
use Rattle.wasm_typing_numbers.specs.WasmTypingChecks.WasmSpecSteps.Machine.{push_operand}
use Rattle.wasm_typing_numbers.specs.WasmTypingChecks.WasmValidatorResources.Answers.{world}
use Rattle.wasm_typing_numbers.specs.WasmTypingChecks.WasmTypingStacks.BodyStacks.{state_of, below}
use Rattle.wasm_typing_numbers.specs.WasmTypingChecks.WasmTypingStacks.SeenTypeWords.{val_in}
use Rattle.wasm_typing_control.specs.FastSteps.{Fast}
use Rattle.wasm_typing_control.proofs.KnownOperands.{two_exchanged}
use Rattle.wasm_typing_control.proofs.known.exchange_two_known.Goals as goal

pub returns-in-Ok-clause-took : goal.returns-in-Ok-clause-took
unfolding Fast
returns-in-Ok-clause-took g c =
    two_exchanged (world (g.T.WasmModuleResources.context c.args.resources.now)) (val_in c.args.first) (val_in c.args.second) (val_in c.args.gives) (state_of c.args.stacks.now) (below 1 (state_of c.args.stacks.now)) (below 2 (state_of c.args.stacks.now)) _
    c.in_ok-peek-2.ensures.popped c.in_ok-peek.ensures.popped (c.in-Ok.ensures.ok ∙ ap (λ o. push_operand o (below 2 (state_of c.args.stacks.now))) c.known.ensures)
