use Rattle.std.proofs.Common.{map, ◌∙◌, ap}
use Rattle.wasm_typing_control.specs.WasmReadersTypes.WasmReadersValues.SeenValues.{val_of}
use Rattle.wasm_typing_control.specs.WasmOperators.SeenContinuations.{handles_of}
use Rattle.wasm_typing_continuations.specs.HandlerTypes.{all_handled}
use Rattle.wasm_typing_continuations.proofs.HandlerChecks.{not_suited}
use Rattle.wasm_typing_continuations.proofs.resuming.resumed.Goals as goal

pub returns-in-Err-check_handlers-clause-err : goal.returns-in-Err-check_handlers-clause-err
returns-in-Err-check_handlers-clause-err g c =
    not_suited _ _ _ _ _ c.in-Ok.ensures.ok
    (c.in-Err-check_handlers.ensures ∙ ap (λ ts. all_handled c.args.stacks.now (g.T.WasmModuleResources.context c.args.resources.now) (map val_of ts) (handles_of c.args.table)) c.results.ensures)
