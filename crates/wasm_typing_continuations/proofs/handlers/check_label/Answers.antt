use Rattle.std.proofs.Common.{true, false, map, ◌∙◌, ap}
use Rattle.wasm_typing_control.specs.WasmReadersTypes.WasmReadersValues.SeenValues.{val_of}
use Rattle.wasm_typing_control.specs.WasmTypingChecks.WasmSpecSteps.Matching.{matches_vals}
use Rattle.wasm_typing_control.specs.WasmTypingChecks.WasmValidatorResources.Answers.{world}
use Rattle.wasm_typing_control.specs.WasmTypingChecks.SeenTypes.{types_seen}
use Rattle.wasm_typing_continuations.proofs.HandlerClauses.{label_suits}
use Rattle.wasm_typing_continuations.proofs.handlers.check_label.Goals as goal

pub returns-then-not-match_types : goal.returns-then-not-match_types
returns-then-not-match_types g c =
    label_suits _ _ _ _ _ _ _ _ _ _ _ false c.in-Ok.ensures.ok c.in-Some.ensures c.in-Some-continued_last.ensures c.goes_on.ensures c.if-not-goes_on.false c.front_types.ensures
    (c.match_types.ensures ∙ ap (λ ts. matches_vals (world (g.T.WasmModuleResources.context c.args.resources.now)) (map val_of ts) (types_seen c.front_types.result)) c.params.ensures) c.if-not-match_types.true

pub returns : goal.returns
returns g c =
    label_suits _ _ _ _ _ _ _ _ _ _ _ true c.in-Ok.ensures.ok c.in-Some.ensures c.in-Some-continued_last.ensures c.goes_on.ensures c.if-not-goes_on.false c.front_types.ensures
    (c.match_types.ensures ∙ ap (λ ts. matches_vals (world (g.T.WasmModuleResources.context c.args.resources.now)) (map val_of ts) (types_seen c.front_types.result)) c.params.ensures) c.if-not-match_types.false
