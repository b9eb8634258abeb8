use Rattle.std.proofs.Common.{map, ◌∙◌, ap}
use Rattle.wasm_readers_types.specs.WasmReadersValues.SeenValues.{val_of}
use Rattle.wasm_typing_control.proofs.CallLookups.{function_held, function_params, function_results}
use Rattle.wasm_typing_fast.proofs.FastActions.{needed, fast_ok}
use Rattle.wasm_typing_fast.proofs.BranchOperands.{exchanged_by}
use Rattle.wasm_typing_fast.proofs.calls.call_function.Goals as goal

pub returns-in-Ok-exchange_types-clause-took : goal.returns-in-Ok-exchange_types-clause-took
returns-in-Ok-exchange_types-clause-took g c =
    needed _ _ _ _ _ _ _ (function_held _ _ _ _ c.in-Ok.ensures.ok)
    (fast_ok _ _ _ _ (exchanged_by _ _ _ _ _ _ c.in-Ok-peek_types.taken _ (function_params _ _ _ _ _ c.in-Ok.ensures.ok (ap (map val_of) c.params.ensures))
    (function_results _ _ _ _ _ c.in-Ok.ensures.ok (c.val_types_of.ensures ∙ ap (map val_of) c.results.ensures)) c.in-Ok-peek_types.ensures.popped.0 c.in-Ok-exchange_types.ensures.ok))
