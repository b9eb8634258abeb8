use Rattle.std.proofs.Common.{map, sym, ◌∙◌, ap}
use Rattle.wasm_readers_types.specs.WasmReadersValues.SeenValues.{val_of}
use Rattle.wasm_typing_numbers.proofs.WasmTypingChecks.ActionSteps.{needed, refused_here, refused_later, refused_takes, halting}
use Rattle.wasm_typing_numbers.proofs.TypeComparisons.{match_held}
use Rattle.wasm_typing_control.proofs.CallLookups.{function_held, function_params, function_results, function_unreached}
use Rattle.wasm_typing_control.proofs.tails.return_call.Goals as goal

pub returns-in-Err-clause-took : goal.returns-in-Err-clause-took
returns-in-Err-clause-took g c =
    function_unreached _ _ _ _ _ _ c.in-Err.ensures.err (λ e. refused_later _ _ _ _ _ _ _ (refused_takes _ _ _ _ _ _ e))

pub returns-then-not-returns-clause-took : goal.returns-then-not-returns-clause-took
returns-then-not-returns-clause-took g c =
    refused_later _ _ _ _ _ _ _ (refused_here _ _ _ _ _ _ (match_held _ _ _ _ _ _ (function_results _ _ _ _ _ c.in-Ok.ensures.ok (ap (map val_of) c.results.ensures)) (sym c.returns.ensures ∙ c.if-not-returns.true)))

pub returns-clause-took : goal.returns-clause-took
returns-clause-took g c =
    needed _ _ _ _ _ _ _ (function_held _ _ _ _ c.in-Ok.ensures.ok)
    (needed _ _ _ _ _ _ _ (match_held _ _ _ _ _ _ (function_results _ _ _ _ _ c.in-Ok.ensures.ok (ap (map val_of) c.results.ensures)) (sym c.returns.ensures ∙ c.if-not-returns.false))
    (halting _ _ _ _ _ _ _ c.halt.ensures.took (function_params _ _ _ _ _ c.in-Ok.ensures.ok (ap (map val_of) c.params.ensures))))
