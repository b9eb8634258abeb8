use Rattle.std.proofs.Common.{rules, sym, ◌∙◌}
use Rattle.wasm_typing_checks.proofs.ActionSteps.{needed, plainly, has_held}
use Rattle.wasm_typing_checks.proofs.TypeLookups.{nothing_typed, data_held}
use Rattle.wasm_typing_numbers.proofs.memories.data_drop.Goals as goal

pub returns-clause-took : goal.returns-clause-took
returns-clause-took g c =
    needed _ _ _ _ _ _ _ (has_held _ _ _ _ (search rules))
    (needed _ _ _ _ _ _ _ (data_held _ _ _ _ (sym c.has_data.ensures ∙ c.if-not-has_data.false))
    (plainly _ _ _ _ _ _ _ _ _ c.plain.ensures.took (nothing_typed _ _) (nothing_typed _ _)))
