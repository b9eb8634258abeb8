use Rattle.std.proofs.Common.{arith}
use Rattle.wasm_operators.specs.SeenControl.{block_of}
use Rattle.wasm_typing_families.specs.WasmTypingBlocks.WasmTypingChecks.WasmTypingStacks.BodyStacks.{state_of}
use Rattle.wasm_typing_validator.proofs.FrameQueries.{label_there, no_label, none_behind}
use Rattle.wasm_typing_validator.proofs.validator.OperatorValidator.label_block.Goals as goal

pub returns-then-depth-eq4294967295 : goal.returns-then-depth-eq4294967295
returns-then-depth-eq4294967295 g c = none_behind (state_of c.args.self.now.stacks).frames c.args.depth c.if-depth-eq4294967295.true

pub returns-in-Some : goal.returns-in-Some
returns-in-Some g c =
    label_there (state_of c.args.self.now.stacks).frames c.args.depth c.in-Some.frame (block_of c.block_type.result)
    (omega (arith, c.ranges.depth.fits, c.if-depth-eq4294967295.false)) c.block_type.ensures c.in-Some.ensures

pub returns-in-None : goal.returns-in-None
returns-in-None g c =
    no_label (state_of c.args.self.now.stacks).frames c.args.depth
    (omega (arith, c.ranges.depth.fits, c.if-depth-eq4294967295.false)) c.in-None.ensures
