use Rattle.std.proofs.Common.{refl}
use Rattle.wasm_typing_numbers.specs.WasmTypingStacks.SeenTypeWords.{val_in}
use Rattle.wasm_typing_numbers.specs.WasmTypingChecks.WasmValidatorResources.Answers.{world}
use Rattle.wasm_typing_numbers.specs.WasmTypingStacks.BodyStacks.{state_of, below}
use Rattle.wasm_typing_numbers.specs.WasmTypingChecks.Steps.{Took}
use Rattle.wasm_typing_numbers.specs.WasmTypingChecks.SeenTypes.{types_seen}
use Rattle.wasm_typing_control.proofs.UnreachedOperands.{rest_missing, all_halted}
use Rattle.wasm_typing_control.proofs.halts.halt_with.Goals as goal

pub returns-in-Err-check_types-clause-took : goal.returns-in-Err-check_types-clause-took
unfolding Took
returns-in-Err-check_types-clause-took g c =
    (rest_missing (world (g.T.WasmModuleResources.context c.args.resources.now)) (types_seen c.args.takes) (val_in c.args.top) (state_of c.args.stacks.now) (below c.in-Ok.first (state_of c.args.stacks.now)) c.in-Ok.ensures.0 c.in-Err-check_types.ensures, refl)

pub returns-clause-took : goal.returns-clause-took
unfolding Took
returns-clause-took g c =
    all_halted (world (g.T.WasmModuleResources.context c.args.resources.now)) (types_seen c.args.takes) (val_in c.args.top) (state_of c.args.stacks.now) (below c.in-Ok.first (state_of c.args.stacks.now)) (below c.in-Ok-check_types.taken (state_of c.args.stacks.now)) _ _
    c.in-Ok.ensures.0 c.in-Ok-check_types.ensures.0 c.take.ensures.state c.stop.ensures.state
