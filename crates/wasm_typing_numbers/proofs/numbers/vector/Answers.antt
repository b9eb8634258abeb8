use Rattle.std.proofs.Common.{rules, ap, sym, Some}
use Rattle.wasm_typing_checks.proofs.ActionSteps.{needed, plainly, allows_held}
use Rattle.wasm_typing_checks.proofs.TypeLookups.{nothing_typed, written_typed}
use Rattle.wasm_typing_numbers.proofs.numbers.vector.Goals as goal

pub returns-clause-took : goal.returns-clause-took
returns-clause-took g c =
    needed _ _ _ _ _ _ _ (allows_held _ _ _ _ (search rules))
    (plainly _ _ _ _ _ _ _ _ _ c.plain.ensures.took (nothing_typed _ _) (written_typed _ _ _ _ (ap Some (sym c.new-2.ensures))))
