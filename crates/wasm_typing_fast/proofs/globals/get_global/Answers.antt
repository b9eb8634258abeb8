use Rattle.std.proofs.Common.{sym, ◌∙◌}
use Rattle.wasm_typing_fast.proofs.FastActions.{needed, plainly}
use Rattle.wasm_typing_control.proofs.WasmTypingChecks.TypeLookups.{nothing_typed}
use Rattle.wasm_typing_control.proofs.GlobalLookups.{global_typed, reached_held}
use Rattle.wasm_typing_fast.proofs.globals.get_global.Goals as goal

pub returns-else-not-reaches-clause-took : goal.returns-else-not-reaches-clause-took
returns-else-not-reaches-clause-took g c =
    needed _ _ _ _ _ _ _ (reached_held _ _ _ _ _ c.in-Some.ensures (sym c.reaches.ensures ∙ c.if-not-reaches.false))
    (plainly _ _ _ _ _ _ _ _ _ c.give_known.ensures.took (nothing_typed _ _) (global_typed _ _ _ _ _ c.in-Some.ensures c.new.ensures))
