use Rattle.std.proofs.Common.{refl, ◌∙◌, ap}
use Rattle.wasm_typing_control.specs.WasmTypingChecks.WasmSpecSteps.Machine.{if_kind}
use Rattle.wasm_typing_control.specs.WasmTypingChecks.WasmTypingStacks.SeenBlocks.{block_in}
use Rattle.wasm_typing_control.specs.WasmTypingChecks.WasmTypingStacks.BodyStacks.{state_of, below}
use Rattle.wasm_typing_control.specs.FastSteps.{Fast}
use Rattle.wasm_typing_fast.proofs.FastActions.{fast_left}
use Rattle.wasm_typing_fast.proofs.FrameEntries.{enters_conditioned}
use Rattle.wasm_typing_fast.proofs.blocks.open_if.Goals as goal

pub returns-in-Ok-open_below-clause-took : goal.returns-in-Ok-open_below-clause-took
unfolding Fast
returns-in-Ok-open_below-clause-took g c =
    enters_conditioned c.args.stacks.now (g.T.WasmModuleResources.context c.args.resources.now) c.args.gives if_kind (block_in c.in-Ok.block) (state_of c.take.new.self)
    c.in-Ok.ensures.named c.in-Ok.ensures.allowed c.in-Ok.ensures.popped (c.take.ensures.state ∙ ap (below 1) c.in-Ok-open_below.ensures.ok)

pub returns-in-Err-open_below-clause-took : goal.returns-in-Err-open_below-clause-took
returns-in-Err-open_below-clause-took g c = fast_left _ _ _ _ c.in-Err-open_below.ensures.err

pub returns-in-Err-clause-took : goal.returns-in-Err-clause-took
returns-in-Err-clause-took g c = fast_left _ _ _ _ refl
