use Rattle.std.proofs.Common.{rules, map, sym, ◌∙◌, ap}
use Rattle.wasm_readers_types.specs.WasmReadersValues.SeenValues.{val_of}
use Rattle.wasm_typing_numbers.proofs.WasmTypingChecks.ActionSteps.{needed, refused_here, refused_later, refused_takes, halting, has_held}
use Rattle.wasm_typing_numbers.proofs.WasmTypingChecks.TypeLookups.{both_typed, first_untyped, second_untyped}
use Rattle.wasm_typing_numbers.proofs.TypeComparisons.{match_held}
use Rattle.wasm_typing_control.proofs.CallLookups.{type_held, type_params, type_results, type_unreached, null_typed, null_untyped}
use Rattle.wasm_typing_control.proofs.tails.return_call_ref.Goals as goal

pub returns-in-None-clause-took : goal.returns-in-None-clause-took
returns-in-None-clause-took g c =
    refused_later _ _ _ _ _ _ _ (refused_later _ _ _ _ _ _ _ (refused_later _ _ _ _ _ _ _
    (refused_takes _ _ _ _ _ _ (second_untyped _ _ _ _ (null_untyped _ _ _ c.in-None.ensures)))))

pub returns-in-Err-clause-took : goal.returns-in-Err-clause-took
returns-in-Err-clause-took g c =
    refused_later _ _ _ _ _ _ _
    (type_unreached _ _ _ _ _ _ c.in-Err.ensures.err (λ e. refused_later _ _ _ _ _ _ _ (refused_takes _ _ _ _ _ _ (first_untyped _ _ _ _ e))))

pub returns-then-not-returns-clause-took : goal.returns-then-not-returns-clause-took
returns-then-not-returns-clause-took g c =
    refused_later _ _ _ _ _ _ _ (refused_later _ _ _ _ _ _ _
    (refused_here _ _ _ _ _ _ (match_held _ _ _ _ _ _ (type_results _ _ _ _ _ c.in-Ok.ensures.ok (ap (map val_of) c.results.ensures)) (sym c.returns.ensures ∙ c.if-not-returns.true))))

pub returns-clause-took : goal.returns-clause-took
returns-clause-took g c =
    needed _ _ _ _ _ _ _ (has_held _ _ _ _ (search rules))
    (needed _ _ _ _ _ _ _ (type_held _ _ _ _ c.in-Ok.ensures.ok)
    (needed _ _ _ _ _ _ _ (match_held _ _ _ _ _ _ (type_results _ _ _ _ _ c.in-Ok.ensures.ok (ap (map val_of) c.results.ensures)) (sym c.returns.ensures ∙ c.if-not-returns.false))
    (halting _ _ _ _ _ _ _ c.halt_with.ensures.took (both_typed _ _ _ _ _ _ (type_params _ _ _ _ _ c.in-Ok.ensures.ok (ap (map val_of) c.params.ensures)) (null_typed _ _ _ c.in-Some.reference c.in-Some.ensures)))))
