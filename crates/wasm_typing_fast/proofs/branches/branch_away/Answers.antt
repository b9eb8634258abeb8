use Rattle.wasm_typing_control.specs.WasmTypingChecks.WasmTypingStacks.BodyStacks.{state_of}
use Rattle.wasm_typing_fast.proofs.FastActions.{fast_ok}
use Rattle.wasm_typing_fast.proofs.BranchOperands.{halted_by}
use Rattle.wasm_typing_fast.proofs.branches.branch_away.Goals as goal

pub returns-in-Ok-clause-took : goal.returns-in-Ok-clause-took
returns-in-Ok-clause-took g c =
    fast_ok _ _ _ _ (halted_by _ _ _ _ c.in-Ok.taken (state_of c.take.new.self) _ c.in-Some.ensures c.in-Ok.ensures.popped.0 c.take.ensures.state c.stop.ensures.state)
