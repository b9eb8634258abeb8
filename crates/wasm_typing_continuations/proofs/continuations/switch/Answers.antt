use Rattle.std.proofs.Common.{map, ◌∙◌, ap}
use Rattle.wasm_typing_control.specs.WasmSpecRules.Attempts.{front_of}
use Rattle.wasm_typing_control.specs.WasmReadersTypes.WasmReadersValues.SeenValues.{val_of}
use Rattle.wasm_typing_continuations.specs.ContinuationLookups.{last_continued}
use Rattle.wasm_typing_continuations.proofs.StepsByOperator.{from_none, switched, not_switched}
use Rattle.wasm_typing_continuations.proofs.continuations.switch.Goals as goal

pub returns-in-None-clause-took : goal.returns-in-None-clause-took
returns-in-None-clause-took g c =
    from_none _ _ _ _ _ _ c.in-Ok.ensures.ok (c.in-None.ensures ∙ ap (λ ts. last_continued (g.T.WasmModuleResources.context c.args.resources.now) (map val_of ts)) c.params.ensures)

pub returns-in-Ok-check_switch-clause-took : goal.returns-in-Ok-check_switch-clause-took
returns-in-Ok-check_switch-clause-took g c =
    switched _ _ _ _ _ _ c.in-Ok.ensures.ok (c.in-Some.ensures ∙ ap (λ ts. last_continued (g.T.WasmModuleResources.context c.args.resources.now) (map val_of ts)) c.params.ensures) _ _ _ _ _ _ c.in-Ok-check_switch.ensures c.plain_with.ensures.took
    (c.front_types.ensures ∙ ap (λ ts. front_of (map val_of ts)) c.params.ensures) c.nullable.ensures (c.val_types_of.ensures ∙ ap (map val_of) c.params-in-Ok-check_switch.ensures)

pub returns-in-Err-check_switch-clause-took : goal.returns-in-Err-check_switch-clause-took
returns-in-Err-check_switch-clause-took g c =
    not_switched _ _ _ _ _ _ c.in-Ok.ensures.ok (c.in-Some.ensures ∙ ap (λ ts. last_continued (g.T.WasmModuleResources.context c.args.resources.now) (map val_of ts)) c.params.ensures) _ _ c.in-Err-check_switch.ensures
