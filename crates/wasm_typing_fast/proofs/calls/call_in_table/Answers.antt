use Rattle.std.proofs.Common.{map, refl, sym, ◌∙◌, ap}
use Rattle.wasm_readers_types.specs.WasmReadersValues.SeenValues.{val_of}
use Rattle.wasm_typing_control.proofs.TableLookups.{table_held, address_typed, element_typed}
use Rattle.wasm_typing_control.proofs.WasmTypingChecks.TypeLookups.{both_typed}
use Rattle.wasm_typing_control.proofs.CallLookups.{type_held, type_params, type_results, functions_held}
use Rattle.wasm_typing_fast.proofs.FastActions.{needed, fast_ok}
use Rattle.wasm_typing_fast.proofs.BranchOperands.{exchanged_below}
use Rattle.wasm_typing_fast.proofs.calls.call_in_table.Goals as goal

pub returns-in-Ok-exchange_types-clause-took : goal.returns-in-Ok-exchange_types-clause-took
returns-in-Ok-exchange_types-clause-took g c =
    needed _ _ _ _ _ _ _ (table_held _ _ _ c.in-Ok.table c.in-Ok.ensures.ok)
    (needed _ _ _ _ _ _ _ (type_held _ _ _ _ c.in-Ok-type_reached.ensures.ok)
    (needed _ _ _ _ _ _ _ (functions_held _ _ _ _ _ (element_typed _ _ _ c.in-Ok.table _ c.in-Ok.ensures.ok refl) (sym c.is_subtype.ensures ∙ c.if-not-is_subtype.false))
    (fast_ok _ _ _ _ (exchanged_below _ _ _ _ _ _ _ _ _ (both_typed _ _ _ _ _ _ (type_params _ _ _ _ _ c.in-Ok-type_reached.ensures.ok (ap (map val_of) c.params.ensures)) (address_typed _ _ _ c.in-Ok.table _ c.in-Ok.ensures.ok c.address.ensures))
    (type_results _ _ _ _ _ c.in-Ok-type_reached.ensures.ok (c.val_types_of.ensures ∙ ap (map val_of) c.results.ensures)) c.in_ok-peek.ensures.popped c.in-Ok-peek_types.ensures.popped.0 c.in-Ok-exchange_types.ensures.ok))))
