use Rattle.std.proofs.Common.{rules, refl, sym, ◌∙◌}
use Rattle.wasm_typing_checks.proofs.ActionSteps.{needed, refused_here, refused_later, plainly, has_held}
use Rattle.wasm_typing_checks.proofs.TypeLookups.{nothing_typed, two_i32s_typed, joined_typed}
use Rattle.wasm_typing_numbers.proofs.TypeComparisons.{one_held, first_unmatched}
use Rattle.wasm_typing_numbers.proofs.TableLookups.{table_held, address_typed, element_typed, segment_typed, segment_untyped}
use Rattle.wasm_typing_numbers.proofs.bulk.table_init.Goals as goal

pub returns-in-None-clause-took : goal.returns-in-None-clause-took
returns-in-None-clause-took g c =
    refused_later _ _ _ _ _ _ _ (refused_later _ _ _ _ _ _ _
    (refused_here _ _ _ _ _ _ (first_unmatched _ _ _ _ (segment_untyped _ _ _ c.in-None.ensures))))

pub returns-then-not-is_subtype-clause-took : goal.returns-then-not-is_subtype-clause-took
returns-then-not-is_subtype-clause-took g c =
    refused_later _ _ _ _ _ _ _ (refused_later _ _ _ _ _ _ _
    (refused_here _ _ _ _ _ _ (one_held _ _ _ _ _ _ _ (segment_typed _ _ _ c.in-Some.ty _ c.in-Some.ensures refl) (element_typed _ _ _ c.in_ok-to.to _ c.in_ok-to.ensures.ok refl) (sym c.is_subtype.ensures ∙ c.if-not-is_subtype.true))))

pub returns-clause-took : goal.returns-clause-took
returns-clause-took g c =
    needed _ _ _ _ _ _ _ (has_held _ _ _ _ (search rules))
    (needed _ _ _ _ _ _ _ (table_held _ _ _ c.in_ok-to.to c.in_ok-to.ensures.ok)
    (needed _ _ _ _ _ _ _ (one_held _ _ _ _ _ _ _ (segment_typed _ _ _ c.in-Some.ty _ c.in-Some.ensures refl) (element_typed _ _ _ c.in_ok-to.to _ c.in_ok-to.ensures.ok refl) (sym c.is_subtype.ensures ∙ c.if-not-is_subtype.false))
    (plainly _ _ _ _ _ _ _ _ _ c.plain.ensures.took (joined_typed _ _ _ _ _ _ (address_typed _ _ _ c.in_ok-to.to _ c.in_ok-to.ensures.ok c.address.ensures) (two_i32s_typed _ _ _ _ c.number-number.ensures c.number-number.ensures)) (nothing_typed _ _))))
