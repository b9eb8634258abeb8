use Rattle.wasm_typing_control.proofs.WasmTypingChecks.TypeLookups.{nothing_typed}
use Rattle.wasm_typing_fast.proofs.FastActions.{needed, plainly}
use Rattle.wasm_typing_fast.proofs.LocalOperators.{already_held, typed_as}
use Rattle.wasm_typing_fast.proofs.locals.local_get.Goals as goal

pub returns-clause-took : goal.returns-clause-took
returns-clause-took g c =
    needed _ _ _ _ _ _ _ (already_held _ _ _ c.in_ok-local.local c.in_ok-local.ensures.there c.in_ok-local.ensures.set)
    (plainly _ _ _ _ _ _ _ _ _ c.give_known.ensures.took (nothing_typed _ _) (typed_as _ _ _ c.in_ok-local.local _ c.in_ok-local.ensures.there c.ty.ensures))
