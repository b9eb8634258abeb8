use Rattle.std.proofs.Common.{Some, map, sym, ◌∙◌, ap}
use Rattle.wasm_typing_control.specs.WasmReadersTypes.WasmReadersValues.SeenValues.{val_of}
use Rattle.wasm_typing_control.proofs.WasmTypingChecks.ActionSteps.{needed}
use Rattle.wasm_typing_continuations.proofs.ContinuationSteps.{continued_held, takes_typed}
use Rattle.wasm_typing_continuations.proofs.HandlerChecks.{resumes, not_resumed}
use Rattle.wasm_typing_continuations.proofs.resuming.resume.Goals as goal

pub returns-in-Ok-clause-took : goal.returns-in-Ok-clause-took
returns-in-Ok-clause-took g c =
    needed _ _ _ _ _ _ _ (continued_held _ _ _ _ c.in-Ok.ensures.ok.0)
    (resumes _ _ _ _ _ _ _ _ _ _ _ _ c.plain_with.ensures.took c.in-Ok.ensures.ok.0 c.in-Ok.ensures.ok.1 (takes_typed _ _ _ _ c.in-Ok.ensures.ok.0 ∙ ap (λ ts. Some (map val_of ts)) (sym c.params.ensures)) c.nullable.ensures
    (c.val_types_of.ensures ∙ ap (map val_of) c.results.ensures))

pub returns-in-Err-clause-took : goal.returns-in-Err-clause-took
returns-in-Err-clause-took g c =
    not_resumed _ _ _ _ _ _ _ c.in-Err.ensures.err
