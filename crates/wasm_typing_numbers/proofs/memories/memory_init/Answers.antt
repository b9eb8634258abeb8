use Rattle.std.proofs.Common.{rules, sym, ◌∙◌}
use Rattle.wasm_typing_checks.proofs.ActionSteps.{needed, plainly, has_held}
use Rattle.wasm_typing_checks.proofs.TypeLookups.{nothing_typed, memory_typed, two_i32s_typed, joined_typed, data_held}
use Rattle.wasm_typing_numbers.proofs.memories.memory_init.Goals as goal

pub returns-in-Some-clause-took : goal.returns-in-Some-clause-took
returns-in-Some-clause-took g c =
    needed _ _ _ _ _ _ _ (has_held _ _ _ _ (search rules))
    (needed _ _ _ _ _ _ _ (data_held _ _ _ _ (sym c.has_data.ensures ∙ c.if-not-has_data.false))
    (plainly _ _ _ _ _ _ _ _ _ c.plain.ensures.took (joined_typed _ _ _ _ _ _ (memory_typed _ _ _ _ _ c.in-Some.ensures c.address.ensures) (two_i32s_typed _ _ _ _ c.number-number.ensures c.number-number.ensures)) (nothing_typed _ _)))
