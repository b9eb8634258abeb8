use Rattle.std.proofs.Common.{sym, ◌∙◌}
use Rattle.wasm_typing_checks.proofs.ActionSteps.{needed, refused_here, refused_later, plainly}
use Rattle.wasm_typing_checks.proofs.TypeLookups.{nothing_typed, two_i32s_typed}
use Rattle.wasm_typing_checks.proofs.IndexedTypes.{barred}
use Rattle.wasm_typing_arrays.proofs.Elements.{storable_held, storable_missing, second_barred, array_before, i32_before}
use Rattle.wasm_typing_arrays.proofs.bulk.array_copy.Goals as goal

pub returns-in-Err-clause-took : goal.returns-in-Err-clause-took
returns-in-Err-clause-took g c =
    barred _ _ _ _ _ _ _ _ (λ e. refused_later _ _ _ _ _ _ _ (refused_here _ _ _ _ _ _ e)) c.in-Err.ensures.barred

pub returns-in-Err-reach_elements-clause-took : goal.returns-in-Err-reach_elements-clause-took
returns-in-Err-reach_elements-clause-took g c =
    second_barred _ _ _ _ _ _ _ _ (λ e. refused_later _ _ _ _ _ _ _ (refused_here _ _ _ _ _ _ (storable_missing _ _ _ _ e)))
    c.in-Err-reach_elements.ensures.barred

pub returns-clause-took : goal.returns-clause-took
returns-clause-took g c =
    needed _ _ _ _ _ _ _ c.in-Ok.ensures.on
    (needed _ _ _ _ _ _ _ c.in-Ok.ensures.reached
    (needed _ _ _ _ _ _ _ c.in-Ok-reach_elements.ensures.reached
    (needed _ _ _ _ _ _ _ c.in-Ok.ensures.mutable
    (needed _ _ _ _ _ _ _ (storable_held _ _ _ _ _ _ _ c.in-Ok-reach_elements.ensures.element c.in-Ok.ensures.element
    (sym c.is_storable.ensures ∙ c.if-not-is_storable.false))
    (plainly _ _ _ _ _ _ _ _ _ c.take_five.ensures.took
    (array_before _ _ _ _ _ _ _ c.in-Ok.ensures.identity c.nullable.ensures (i32_before _ _ _ _ _ c.number-number.ensures
    (array_before _ _ _ _ _ _ _ c.in-Ok-reach_elements.ensures.identity c.nullable-2.ensures
    (two_i32s_typed _ _ _ _ c.number-number.ensures c.number-number.ensures)))) (nothing_typed _ _))))))

pub returns-then-not-is_storable-clause-took : goal.returns-then-not-is_storable-clause-took
returns-then-not-is_storable-clause-took g c =
    refused_later _ _ _ _ _ _ _ (refused_later _ _ _ _ _ _ _
    (refused_later _ _ _ _ _ _ _ (refused_later _ _ _ _ _ _ _
    (refused_here _ _ _ _ _ _ (storable_held _ _ _ _ _ _ _ c.in-Ok-reach_elements.ensures.element c.in-Ok.ensures.element
    (sym c.is_storable.ensures ∙ c.if-not-is_storable.true))))))
