use Rattle.std.proofs.Common.{refl}
use Rattle.wasm_typing_control.specs.WasmTypingChecks.WasmTypingStacks.SeenBlocks.{block_in, kind_of}
use Rattle.wasm_typing_control.specs.WasmTypingChecks.WasmTypingStacks.BodyStacks.{state_of}
use Rattle.wasm_typing_control.specs.FastSteps.{Fast}
use Rattle.wasm_typing_fast.proofs.FastActions.{fast_left}
use Rattle.wasm_typing_fast.proofs.FrameEntries.{enters_plainly}
use Rattle.wasm_typing_fast.proofs.blocks.open_plain.Goals as goal

pub returns-in-Ok-open-clause-took : goal.returns-in-Ok-open-clause-took
unfolding Fast
returns-in-Ok-open-clause-took g c =
    enters_plainly c.args.stacks.now (g.T.WasmModuleResources.context c.args._resources.now) c.args.gives (kind_of c.args.kind) (block_in c.in-Ok.block) (state_of c.open.new.self)
    c.in-Ok.ensures.named c.in-Ok.ensures.allowed c.in-Ok-open.ensures.ok

pub returns-in-Err-open-clause-took : goal.returns-in-Err-open-clause-took
returns-in-Err-open-clause-took g c = fast_left _ _ _ _ c.in-Err-open.ensures.err

pub returns-in-Err-clause-took : goal.returns-in-Err-clause-took
returns-in-Err-clause-took g c = fast_left _ _ _ _ refl
