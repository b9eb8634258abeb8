use Rattle.std.proofs.Common.{sym, ◌∙◌, ap}
use Rattle.wasm_spec.specs.MatchingTests.{same_flag}
use Rattle.wasm_typing_checks.proofs.ActionSteps.{needed, refused_here, plainly, refused_later}
use Rattle.wasm_typing_checks.proofs.TypeLookups.{i32_typed}
use Rattle.wasm_typing_checks.proofs.IndexedTypes.{barred}
use Rattle.wasm_typing_arrays.proofs.Elements.{element_typed, packed_held, packed_missing, array_before}
use Rattle.wasm_typing_arrays.proofs.accesses.get.Goals as goal

pub returns-in-Err-clause-took : goal.returns-in-Err-clause-took
returns-in-Err-clause-took g c =
    barred _ _ _ _ _ _ _ _ (λ e. refused_here _ _ _ _ _ _ (packed_missing _ _ _ _ e)) c.in-Err.ensures.barred

pub returns-clause-took : goal.returns-clause-took
returns-clause-took g c =
    needed _ _ _ _ _ _ _ c.in-Ok.ensures.on
    (needed _ _ _ _ _ _ _ c.in-Ok.ensures.reached
    (needed _ _ _ _ _ _ _ (packed_held _ _ _ _ _ _ c.in-Ok.ensures.element
    (sym (c.same_flag.ensures ∙ ap (same_flag c.args.packed) c.is_packed.ensures) ∙ c.if-not-same_flag.false))
    (plainly _ _ _ _ _ _ _ _ _ c.plain.ensures.took
    (array_before _ _ _ _ _ _ _ c.in-Ok.ensures.identity c.nullable.ensures (i32_typed _ _ _ c.number.ensures))
    (element_typed _ _ _ _ _ c.in-Ok.ensures.element (c.new.ensures ∙ c.unpack.ensures)))))

pub returns-then-not-same_flag-clause-took : goal.returns-then-not-same_flag-clause-took
returns-then-not-same_flag-clause-took g c =
    refused_later _ _ _ _ _ _ _ (refused_later _ _ _ _ _ _ _
    (refused_here _ _ _ _ _ _ (packed_held _ _ _ _ _ _ c.in-Ok.ensures.element
    (sym (c.same_flag.ensures ∙ ap (same_flag c.args.packed) c.is_packed.ensures) ∙ c.if-not-same_flag.true))))
