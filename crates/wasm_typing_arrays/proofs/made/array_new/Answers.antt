use Rattle.std.proofs.Common.{◌∙◌}
use Rattle.wasm_typing_checks.proofs.ActionSteps.{needed, refused_takes, plainly}
use Rattle.wasm_typing_checks.proofs.TypeLookups.{i32_typed, joined_typed, first_untyped}
use Rattle.wasm_typing_checks.proofs.IndexedTypes.{new_typed, barred}
use Rattle.wasm_typing_arrays.proofs.Elements.{element_typed, element_untyped}
use Rattle.wasm_typing_arrays.proofs.made.array_new.Goals as goal

pub returns-in-Err-clause-took : goal.returns-in-Err-clause-took
returns-in-Err-clause-took g c =
    barred _ _ _ _ _ _ _ _ (λ e. refused_takes _ _ _ _ _ _ (first_untyped _ _ _ _ (element_untyped _ _ _ e))) c.in-Err.ensures.barred

pub returns-clause-took : goal.returns-clause-took
returns-clause-took g c =
    needed _ _ _ _ _ _ _ c.in-Ok.ensures.on
    (needed _ _ _ _ _ _ _ c.in-Ok.ensures.reached
    (plainly _ _ _ _ _ _ _ _ _ c.plain.ensures.took
    (joined_typed _ _ _ _ _ _ (element_typed _ _ _ _ _ c.in-Ok.ensures.element (c.new-element.ensures ∙ c.unpack.ensures))
    (i32_typed _ _ _ c.number.ensures)) (new_typed _ _ _ _ _ c.in-Ok.ensures.identity c.new_reference-given.ensures)))
