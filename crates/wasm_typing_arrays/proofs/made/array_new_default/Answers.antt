use Rattle.std.proofs.Common.{sym, ◌∙◌, ap}
use Rattle.wasm_typing_checks.specs.WasmSpecSteps.Meanings.{has_default}
use Rattle.wasm_typing_checks.proofs.ActionSteps.{needed, refused_here, plainly, refused_later}
use Rattle.wasm_typing_checks.proofs.TypeLookups.{i32_typed}
use Rattle.wasm_typing_checks.proofs.IndexedTypes.{new_typed, barred}
use Rattle.wasm_typing_arrays.proofs.Elements.{default_held, default_missing}
use Rattle.wasm_typing_arrays.proofs.made.array_new_default.Goals as goal

pub returns-in-Err-clause-took : goal.returns-in-Err-clause-took
returns-in-Err-clause-took g c =
    barred _ _ _ _ _ _ _ _ (λ e. refused_here _ _ _ _ _ _ (default_missing _ _ _ e)) c.in-Err.ensures.barred

pub returns-clause-took : goal.returns-clause-took
returns-clause-took g c =
    needed _ _ _ _ _ _ _ c.in-Ok.ensures.on
    (needed _ _ _ _ _ _ _ c.in-Ok.ensures.reached
    (needed _ _ _ _ _ _ _ (default_held _ _ _ _ _ c.in-Ok.ensures.element
    (sym (c.has_default.ensures ∙ ap has_default c.unpack.ensures) ∙ c.if-not-has_default.false))
    (plainly _ _ _ _ _ _ _ _ _ c.plain.ensures.took (i32_typed _ _ _ c.number.ensures)
    (new_typed _ _ _ _ _ c.in-Ok.ensures.identity c.new_reference-given.ensures))))

pub returns-then-not-has_default-clause-took : goal.returns-then-not-has_default-clause-took
returns-then-not-has_default-clause-took g c =
    refused_later _ _ _ _ _ _ _ (refused_later _ _ _ _ _ _ _
    (refused_here _ _ _ _ _ _ (default_held _ _ _ _ _ c.in-Ok.ensures.element
    (sym (c.has_default.ensures ∙ ap has_default c.unpack.ensures) ∙ c.if-not-has_default.true))))
