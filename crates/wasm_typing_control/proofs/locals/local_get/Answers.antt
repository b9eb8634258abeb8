use Rattle.std.proofs.Common.{sym, ◌∙◌}
use Rattle.wasm_typing_numbers.proofs.WasmTypingChecks.ActionSteps.{needed, plainly}
use Rattle.wasm_typing_numbers.proofs.WasmTypingChecks.TypeLookups.{nothing_typed}
use Rattle.wasm_typing_control.proofs.LocalOperators.{local_typed, set_held}
use Rattle.wasm_typing_control.proofs.locals.local_get.Goals as goal

pub returns-else-not-is_set-clause-took : goal.returns-else-not-is_set-clause-took
returns-else-not-is_set-clause-took g c =
    needed _ _ _ _ _ _ _ (set_held _ _ _ c.in-Some.local _ c.in-Some.ensures (sym c.is_set.ensures ∙ c.if-not-is_set.false))
    (plainly _ _ _ _ _ _ _ _ _ c.plain.ensures.took (nothing_typed _ _) (local_typed _ _ _ c.in-Some.local _ c.in-Some.ensures c.ty.ensures))
