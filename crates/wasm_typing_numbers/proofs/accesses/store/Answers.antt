use Rattle.std.proofs.Common.{rules, sym, ◌∙◌}
use Rattle.wasm_typing_checks.proofs.ActionSteps.{needed, plainly, allows_held}
use Rattle.wasm_typing_checks.proofs.TypeLookups.{nothing_typed, memory_typed, number_typed, joined_typed, aligned_held}
use Rattle.wasm_typing_numbers.proofs.accesses.store.Goals as goal

pub returns-else-not-fits-clause-took : goal.returns-else-not-fits-clause-took
returns-else-not-fits-clause-took g c =
    needed _ _ _ _ _ _ _ (allows_held _ _ _ _ (search rules))
    (needed _ _ _ _ _ _ _ (aligned_held _ _ _ _ _ _ c.in-Some.ensures (sym c.fits.ensures ∙ c.if-not-fits.false))
    (plainly _ _ _ _ _ _ _ _ _ c.plain.ensures.took
    (joined_typed _ _ _ _ _ _ (memory_typed _ _ _ _ _ c.in-Some.ensures c.address.ensures) (number_typed _ _ _ _ c.number.ensures)) (nothing_typed _ _)))
