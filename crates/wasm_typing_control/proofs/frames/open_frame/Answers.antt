use Rattle.wasm_typing_numbers.specs.WasmTypingChecks.WasmValidatorResources.Answers.{world}
use Rattle.wasm_typing_numbers.specs.WasmTypingStacks.BodyStacks.{state_of}
use Rattle.wasm_typing_numbers.specs.WasmTypingStacks.SeenBlocks.{block_in, kind_of}
use Rattle.wasm_typing_numbers.specs.WasmTypingChecks.SeenTypes.{types_seen}
use Rattle.wasm_typing_numbers.proofs.WasmTypingChecks.ActionSteps.{took_ok}
use Rattle.wasm_typing_control.proofs.OpenFrames.{is_entered_over}
use Rattle.wasm_typing_control.proofs.frames.open_frame.Goals as goal

pub returns-in-Ok-open_below-clause-took : goal.returns-in-Ok-open_below-clause-took
returns-in-Ok-open_below-clause-took g c =
    took_ok _ _ _ _
    (is_entered_over (world (g.T.WasmModuleResources.context c.args.resources.now)) (kind_of c.args.kind) (block_in c.args.block) (types_seen c.args.takes) c.args.first c.in-Ok.taken (state_of c.args.stacks.now) (state_of c.open_below.new.self)
    (state_of c.take.new.self) c.in-Ok.ensures.popped.0 c.in-Ok.ensures.there c.in-Ok-open_below.ensures.ok c.take.ensures.state)
