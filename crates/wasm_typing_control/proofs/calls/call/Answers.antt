use Rattle.std.proofs.Common.{map, ◌∙◌, ap}
use Rattle.wasm_readers_types.specs.WasmReadersValues.SeenValues.{val_of}
use Rattle.wasm_typing_numbers.proofs.WasmTypingChecks.ActionSteps.{needed, plainly}
use Rattle.wasm_typing_control.proofs.CallLookups.{function_held, function_params, function_results}
use Rattle.wasm_typing_control.proofs.calls.call.Goals as goal

pub returns-in-Ok-clause-took : goal.returns-in-Ok-clause-took
returns-in-Ok-clause-took g c =
    needed _ _ _ _ _ _ _ (function_held _ _ _ _ c.in-Ok.ensures.ok)
    (plainly _ _ _ _ _ _ _ _ _ c.plain.ensures.took (function_params _ _ _ _ _ c.in-Ok.ensures.ok (ap (map val_of) c.params.ensures)) (function_results _ _ _ _ _ c.in-Ok.ensures.ok (c.val_types_of.ensures ∙ ap (map val_of) c.results.ensures)))
