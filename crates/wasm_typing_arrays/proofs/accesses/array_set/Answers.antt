use Rattle.std.proofs.Common.{◌∙◌}
use Rattle.wasm_typing_checks.proofs.ActionSteps.{needed, refused_here, plainly}
use Rattle.wasm_typing_checks.proofs.TypeLookups.{nothing_typed, i32_typed, both_typed}
use Rattle.wasm_typing_checks.proofs.IndexedTypes.{barred}
use Rattle.wasm_typing_arrays.proofs.Elements.{element_typed, array_before}
use Rattle.wasm_typing_arrays.proofs.accesses.array_set.Goals as goal

pub returns-in-Err-clause-took : goal.returns-in-Err-clause-took
returns-in-Err-clause-took g c =
    barred _ _ _ _ _ _ _ _ (λ e. refused_here _ _ _ _ _ _ e) c.in-Err.ensures.barred

pub returns-clause-took : goal.returns-clause-took
returns-clause-took g c =
    needed _ _ _ _ _ _ _ c.in-Ok.ensures.on
    (needed _ _ _ _ _ _ _ c.in-Ok.ensures.reached
    (needed _ _ _ _ _ _ _ c.in-Ok.ensures.mutable
    (plainly _ _ _ _ _ _ _ _ _ c.plain.ensures.took
    (both_typed _ _ _ _ _ _ (array_before _ _ _ _ _ _ _ c.in-Ok.ensures.identity c.nullable.ensures (i32_typed _ _ _ c.number.ensures))
    (element_typed _ _ _ _ _ c.in-Ok.ensures.element (c.new.ensures ∙ c.unpack.ensures))) (nothing_typed _ _))))
