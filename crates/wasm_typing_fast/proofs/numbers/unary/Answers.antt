use Rattle.std.proofs.Common.{rules}
use Rattle.wasm_typing_control.proofs.WasmTypingChecks.TypeLookups.{number_typed}
use Rattle.wasm_typing_fast.proofs.FastActions.{needed, plainly, allows_held}
use Rattle.wasm_typing_fast.proofs.numbers.unary.Goals as goal

pub returns-clause-took : goal.returns-clause-took
returns-clause-took g c =
    needed _ _ _ _ _ _ _ (allows_held _ _ _ _ (search rules))
    (needed _ _ _ _ _ _ _ (allows_held _ _ _ _ (search rules))
    (plainly _ _ _ _ _ _ _ _ _ c.exchange_known.ensures.took (number_typed _ _ _ _ c.number.ensures) (number_typed _ _ _ _ c.number-2.ensures)))
