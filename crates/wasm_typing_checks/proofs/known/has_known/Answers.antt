use Rattle.std.proofs.Common.{length, refl}
use Rattle.wasm_typing_stacks.specs.BodyStacks.{state_of}
use Rattle.wasm_typing_checks.proofs.KnownOperands.{stand}
use Rattle.wasm_typing_checks.proofs.known.has_known.Goals as goal

pub returns-clause-there : goal.returns-clause-there
returns-clause-there g c =
    λ e. stand (state_of c.args.stacks.now) c.args.stacks.now.operands c.slice.result.now c.args.types.now c.args.taken (length c.args.types.now) (length c.args.types.now) refl refl c.slice.ensures (c.are_known.ensures e)
