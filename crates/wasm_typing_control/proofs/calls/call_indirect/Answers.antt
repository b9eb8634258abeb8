use Rattle.std.proofs.Common.{map, refl, sym, ◌∙◌, ap}
use Rattle.wasm_readers_types.specs.WasmReadersValues.SeenValues.{val_of}
use Rattle.wasm_typing_numbers.proofs.WasmTypingChecks.ActionSteps.{needed, refused_here, refused_later, refused_takes, plainly}
use Rattle.wasm_typing_numbers.proofs.WasmTypingChecks.TypeLookups.{both_typed, second_untyped}
use Rattle.wasm_typing_numbers.proofs.TableLookups.{table_held, address_typed, element_typed, address_untyped, unreached}
use Rattle.wasm_typing_control.proofs.CallLookups.{type_held, type_params, type_results, functions_held}
use Rattle.wasm_typing_control.proofs.calls.call_indirect.Goals as goal

pub returns-in-Err-clause-took : goal.returns-in-Err-clause-took
returns-in-Err-clause-took g c =
    unreached _ _ _ _ _ _ c.in-Err.ensures.err (λ e. refused_later _ _ _ _ _ _ _ (refused_later _ _ _ _ _ _ _ (refused_takes _ _ _ _ _ _ (second_untyped _ _ _ _ (address_untyped _ _ _ e)))))

pub returns-then-not-is_subtype-clause-took : goal.returns-then-not-is_subtype-clause-took
returns-then-not-is_subtype-clause-took g c =
    refused_later _ _ _ _ _ _ _ (refused_later _ _ _ _ _ _ _
    (refused_here _ _ _ _ _ _ (functions_held _ _ _ _ _ (element_typed _ _ _ c.in-Ok.table _ c.in-Ok.ensures.ok refl) (sym c.is_subtype.ensures ∙ c.if-not-is_subtype.true))))

pub returns-in-Ok-type_reached-clause-took : goal.returns-in-Ok-type_reached-clause-took
returns-in-Ok-type_reached-clause-took g c =
    needed _ _ _ _ _ _ _ (table_held _ _ _ c.in-Ok.table c.in-Ok.ensures.ok)
    (needed _ _ _ _ _ _ _ (type_held _ _ _ _ c.in-Ok-type_reached.ensures.ok)
    (needed _ _ _ _ _ _ _ (functions_held _ _ _ _ _ (element_typed _ _ _ c.in-Ok.table _ c.in-Ok.ensures.ok refl) (sym c.is_subtype.ensures ∙ c.if-not-is_subtype.false))
    (plainly _ _ _ _ _ _ _ _ _ c.plain_with.ensures.took (both_typed _ _ _ _ _ _ (type_params _ _ _ _ _ c.in-Ok-type_reached.ensures.ok (ap (map val_of) c.params.ensures)) (address_typed _ _ _ c.in-Ok.table _ c.in-Ok.ensures.ok c.address.ensures)) (type_results _ _ _ _ _ c.in-Ok-type_reached.ensures.ok (c.val_types_of.ensures ∙ ap (map val_of) c.results.ensures)))))
