use Rattle.std.proofs.Common.{sym, ◌∙◌}
use Rattle.wasm_typing_numbers.proofs.WasmTypingChecks.ActionSteps.{needed, plainly}
use Rattle.wasm_typing_numbers.proofs.WasmTypingChecks.TypeLookups.{nothing_typed}
use Rattle.wasm_typing_control.proofs.GlobalLookups.{global_typed, reached_held}
use Rattle.wasm_typing_control.proofs.globals.global_get.Goals as goal

pub returns-else-not-reaches-clause-took : goal.returns-else-not-reaches-clause-took
returns-else-not-reaches-clause-took g c =
    needed _ _ _ _ _ _ _ (reached_held _ _ _ _ _ c.in-Some.ensures (sym c.reaches.ensures ∙ c.if-not-reaches.false))
    (plainly _ _ _ _ _ _ _ _ _ c.plain.ensures.took (nothing_typed _ _) (global_typed _ _ _ _ _ c.in-Some.ensures c.new.ensures))
