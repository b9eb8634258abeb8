use Rattle.wasm_typing_control.proofs.WasmTypingChecks.TypeLookups.{both_typed, i32_typed}
use Rattle.wasm_typing_fast.proofs.FastActions.{fast_ok}
use Rattle.wasm_typing_fast.proofs.BranchOperands.{kept_below}
use Rattle.wasm_typing_fast.proofs.branches.branch_perhaps.Goals as goal

pub returns-in-Ok-clause-took : goal.returns-in-Ok-clause-took
returns-in-Ok-clause-took g c =
    fast_ok _ _ _ _ (kept_below _ _ _ _ _ _ _ _ (both_typed _ _ _ _ _ _ c.in-Some.ensures (i32_typed _ _ _ c.number.ensures)) c.in-Some.ensures
    c.in_ok-peek.ensures.popped c.in-Ok.ensures.popped.0 c.in-Ok.ensures.there c.take.ensures.state)
