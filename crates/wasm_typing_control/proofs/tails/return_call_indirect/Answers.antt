use Rattle.std.proofs.Common.{map, refl, sym, ◌∙◌, ap}
use Rattle.wasm_readers_types.specs.WasmReadersValues.SeenValues.{val_of}
use Rattle.wasm_typing_numbers.proofs.WasmTypingChecks.ActionSteps.{needed, refused_here, refused_later, refused_takes, halting}
use Rattle.wasm_typing_numbers.proofs.WasmTypingChecks.TypeLookups.{both_typed, first_untyped, second_untyped}
use Rattle.wasm_typing_numbers.proofs.TypeComparisons.{match_held}
use Rattle.wasm_typing_numbers.proofs.TableLookups.{table_held, address_typed, element_typed, address_untyped, unreached}
use Rattle.wasm_typing_control.proofs.CallLookups.{type_held, type_params, type_results, type_unreached, functions_held}
use Rattle.wasm_typing_control.proofs.tails.return_call_indirect.Goals as goal

pub returns-in-Err-clause-took : goal.returns-in-Err-clause-took
returns-in-Err-clause-took g c =
    refused_later _ _ _ _ _ _ _
    (unreached _ _ _ _ _ _ c.in-Err.ensures.err (λ e. refused_later _ _ _ _ _ _ _ (refused_later _ _ _ _ _ _ _ (refused_takes _ _ _ _ _ _ (second_untyped _ _ _ _ (address_untyped _ _ _ e))))))

pub returns-then-not-is_subtype-clause-took : goal.returns-then-not-is_subtype-clause-took
returns-then-not-is_subtype-clause-took g c =
    refused_later _ _ _ _ _ _ _ (refused_later _ _ _ _ _ _ _ (refused_later _ _ _ _ _ _ _
    (refused_here _ _ _ _ _ _ (functions_held _ _ _ _ _ (element_typed _ _ _ c.in-Ok.table _ c.in-Ok.ensures.ok refl) (sym c.is_subtype.ensures ∙ c.if-not-is_subtype.true)))))

pub returns-in-Err-type_reached-clause-took : goal.returns-in-Err-type_reached-clause-took
returns-in-Err-type_reached-clause-took g c =
    refused_later _ _ _ _ _ _ _ (refused_later _ _ _ _ _ _ _
    (type_unreached _ _ _ _ _ _ c.in-Err-type_reached.ensures.err (λ e. refused_later _ _ _ _ _ _ _ (refused_takes _ _ _ _ _ _ (first_untyped _ _ _ _ e)))))

pub returns-then-not-returns-clause-took : goal.returns-then-not-returns-clause-took
returns-then-not-returns-clause-took g c =
    refused_here _ _ _ _ _ _ (match_held _ _ _ _ _ _ (type_results _ _ _ _ _ c.in-Ok-type_reached.ensures.ok (ap (map val_of) c.results.ensures)) (sym c.returns.ensures ∙ c.if-not-returns.true))

pub returns-clause-took : goal.returns-clause-took
returns-clause-took g c =
    needed _ _ _ _ _ _ _ (match_held _ _ _ _ _ _ (type_results _ _ _ _ _ c.in-Ok-type_reached.ensures.ok (ap (map val_of) c.results.ensures)) (sym c.returns.ensures ∙ c.if-not-returns.false))
    (needed _ _ _ _ _ _ _ (table_held _ _ _ c.in-Ok.table c.in-Ok.ensures.ok)
    (needed _ _ _ _ _ _ _ (type_held _ _ _ _ c.in-Ok-type_reached.ensures.ok)
    (needed _ _ _ _ _ _ _ (functions_held _ _ _ _ _ (element_typed _ _ _ c.in-Ok.table _ c.in-Ok.ensures.ok refl) (sym c.is_subtype.ensures ∙ c.if-not-is_subtype.false))
    (halting _ _ _ _ _ _ _ c.halt_with.ensures.took (both_typed _ _ _ _ _ _ (type_params _ _ _ _ _ c.in-Ok-type_reached.ensures.ok (ap (map val_of) c.params.ensures)) (address_typed _ _ _ c.in-Ok.table _ c.in-Ok.ensures.ok c.address.ensures))))))
