use Rattle.std.proofs.Common.{map, ◌∙◌, ap}
use Rattle.wasm_typing_control.specs.WasmReadersTypes.WasmReadersValues.SeenValues.{val_of}
use Rattle.wasm_typing_continuations.proofs.StepsByOperator.{suspended}
use Rattle.wasm_typing_continuations.proofs.continuations.suspend.Goals as goal

pub returns-in-Ok-clause-took : goal.returns-in-Ok-clause-took
returns-in-Ok-clause-took g c =
    suspended _ _ _ _ _ _ _ _ _ c.plain.ensures.took c.in-Ok.ensures.ok (ap (map val_of) c.params.ensures) (c.val_types_of.ensures ∙ ap (map val_of) c.results.ensures)
