use Rattle.std.proofs.Common.{Some, map, sym, ◌∙◌, ap}
use Rattle.wasm_typing_control.specs.WasmReadersTypes.WasmReadersValues.SeenValues.{val_of}
use Rattle.wasm_typing_control.proofs.WasmTypingChecks.ActionSteps.{needed, refused_here, refused_later}
use Rattle.wasm_typing_continuations.proofs.ContinuationSteps.{continued_held, exception_held, no_exception, tag_params}
use Rattle.wasm_typing_continuations.proofs.HandlerChecks.{resumes, not_resumed_by}
use Rattle.wasm_typing_continuations.proofs.StepsByOperator.{empty_seen}
use Rattle.wasm_typing_continuations.proofs.resuming.resume_throw.Goals as goal

pub returns-in-Err-clause-took : goal.returns-in-Err-clause-took
returns-in-Err-clause-took g c =
    not_resumed_by _ _ _ _ _ _ _ _ c.in-Err.ensures.err

pub returns-in-Err-tag_type-clause-took : goal.returns-in-Err-tag_type-clause-took
returns-in-Err-tag_type-clause-took g c =
    refused_later _ _ _ _ _ _ _ (refused_here _ _ _ _ _ _ (no_exception _ _ _ c.in-Err-tag_type.ensures.err))

pub returns-then-not-is_empty-clause-took : goal.returns-then-not-is_empty-clause-took
returns-then-not-is_empty-clause-took g c =
    refused_later _ _ _ _ _ _ _ (refused_here _ _ _ _ _ _ (exception_held _ _ _ _ _ c.in-Ok-tag_type.ensures.ok (empty_seen _ _ _ c.is_empty.ensures c.results.ensures ∙ c.if-not-is_empty.true)))

pub returns-clause-took : goal.returns-clause-took
returns-clause-took g c =
    needed _ _ _ _ _ _ _ (continued_held _ _ _ _ c.in-Ok.ensures.ok.0)
    (needed _ _ _ _ _ _ _ (exception_held _ _ _ _ _ c.in-Ok-tag_type.ensures.ok (empty_seen _ _ _ c.is_empty.ensures c.results.ensures ∙ c.if-not-is_empty.false))
    (resumes _ _ _ _ _ _ _ _ _ _ _ _ c.plain_with.ensures.took c.in-Ok.ensures.ok.0 c.in-Ok.ensures.ok.1 (tag_params _ _ _ _ c.in-Ok-tag_type.ensures.ok ∙ ap (λ ts. Some (map val_of ts)) (sym c.params.ensures)) c.nullable.ensures
    (c.val_types_of.ensures ∙ ap (map val_of) c.results-2.ensures)))
