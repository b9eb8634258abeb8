use Rattle.std.proofs.Common.{rules, map, ◌∙◌, ap}
use Rattle.wasm_readers_types.specs.WasmReadersValues.SeenValues.{val_of}
use Rattle.wasm_typing_numbers.proofs.WasmTypingChecks.ActionSteps.{needed, plainly, has_held}
use Rattle.wasm_typing_numbers.proofs.WasmTypingChecks.TypeLookups.{both_typed}
use Rattle.wasm_typing_control.proofs.CallLookups.{type_held, type_params, type_results, null_typed}
use Rattle.wasm_typing_control.proofs.calls.call_ref.Goals as goal

pub returns-in-Ok-clause-took : goal.returns-in-Ok-clause-took
returns-in-Ok-clause-took g c =
    needed _ _ _ _ _ _ _ (has_held _ _ _ _ (search rules))
    (needed _ _ _ _ _ _ _ (type_held _ _ _ _ c.in-Ok.ensures.ok)
    (plainly _ _ _ _ _ _ _ _ _ c.plain_with.ensures.took (both_typed _ _ _ _ _ _ (type_params _ _ _ _ _ c.in-Ok.ensures.ok (ap (map val_of) c.params.ensures)) (null_typed _ _ _ c.in-Some.reference c.in-Some.ensures)) (type_results _ _ _ _ _ c.in-Ok.ensures.ok (c.val_types_of.ensures ∙ ap (map val_of) c.results.ensures))))
