use Rattle.std.proofs.Common.{rules}
use Rattle.wasm_typing_checks.proofs.ActionSteps.{needed, plainly, allows_held}
use Rattle.wasm_typing_checks.proofs.TypeLookups.{number_typed, two_numbers_typed}
use Rattle.wasm_typing_numbers.proofs.numbers.binary.Goals as goal

pub returns-clause-took : goal.returns-clause-took
returns-clause-took g c =
    needed _ _ _ _ _ _ _ (allows_held _ _ _ _ (search rules))
    (needed _ _ _ _ _ _ _ (allows_held _ _ _ _ (search rules))
    (plainly _ _ _ _ _ _ _ _ _ c.plain.ensures.took (two_numbers_typed _ _ _ _ _ c.number.ensures c.number-2.ensures) (number_typed _ _ _ _ c.number-3.ensures)))
