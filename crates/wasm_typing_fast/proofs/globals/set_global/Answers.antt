use Rattle.std.proofs.Common.{sym, ◌∙◌}
use Rattle.wasm_typing_fast.proofs.FastActions.{needed, plainly}
use Rattle.wasm_typing_control.proofs.WasmTypingChecks.TypeLookups.{nothing_typed}
use Rattle.wasm_typing_control.proofs.GlobalLookups.{global_typed, mutable_held, reached_held, unnot}
use Rattle.wasm_typing_fast.proofs.globals.set_global.Goals as goal

pub returns-else-not-ty-clause-took : goal.returns-else-not-ty-clause-took
returns-else-not-ty-clause-took g c =
    needed _ _ _ _ _ _ _ (reached_held _ _ _ _ _ c.in-Some.ensures (sym c.reaches.ensures ∙ c.if-not-reaches.false))
    (needed _ _ _ _ _ _ _ (mutable_held _ _ _ _ _ c.in-Some.ensures (unnot _ c.if-not-ty.false))
    (plainly _ _ _ _ _ _ _ _ _ c.take_known.ensures.took (global_typed _ _ _ _ _ c.in-Some.ensures c.new.ensures) (nothing_typed _ _)))
