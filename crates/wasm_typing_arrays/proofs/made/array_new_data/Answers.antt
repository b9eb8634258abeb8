use Rattle.std.proofs.Common.{sym, ◌∙◌, ap}
use Rattle.wasm_spec.specs.Syntax.{Val}
use Rattle.wasm_readers_types.specs.WasmReadersValues.declared.indices.UnpackedIndex.{UnpackedIndex}
use Rattle.wasm_typing_checks.specs.WasmSpecSteps.Machine.{same_number}
use Rattle.wasm_typing_checks.proofs.ActionSteps.{needed, refused_here, refused_later, plainly}
use Rattle.wasm_typing_checks.proofs.TypeLookups.{two_i32s_typed, data_held}
use Rattle.wasm_typing_checks.proofs.IndexedTypes.{new_typed, barred}
use Rattle.wasm_typing_arrays.proofs.Elements.{number_held, number_missing}
use Rattle.wasm_typing_arrays.proofs.made.array_new_data.Goals as goal

pub returns-in-Err-clause-took : goal.returns-in-Err-clause-took
returns-in-Err-clause-took g c =
    barred _ _ _ _ _ _ _ _ (λ e. refused_here _ _ _ _ _ _ (number_missing _ _ _ e)) c.in-Err.ensures.barred

pub returns-in-Ok-check_data-clause-took : goal.returns-in-Ok-check_data-clause-took
returns-in-Ok-check_data-clause-took g c =
    needed _ _ _ _ _ _ _ c.in-Ok.ensures.on
    (needed _ _ _ _ _ _ _ c.in-Ok.ensures.reached
    (needed _ _ _ _ _ _ _ (number_held _ _ _ _ _ c.in-Ok.ensures.element
    (sym (c.is_number.ensures ∙ ap (λ (w : Val UnpackedIndex). same_number w w) c.unpack.ensures) ∙ c.if-not-is_number.false))
    (needed _ _ _ _ _ _ _ (data_held _ _ _ _ c.in-Ok-check_data.ensures.ok)
    (plainly _ _ _ _ _ _ _ _ _ c.plain.ensures.took (two_i32s_typed _ _ _ _ c.number-number.ensures c.number-number.ensures)
    (new_typed _ _ _ _ _ c.in-Ok.ensures.identity c.new_reference-given.ensures)))))

pub returns-then-not-is_number-clause-took : goal.returns-then-not-is_number-clause-took
returns-then-not-is_number-clause-took g c =
    refused_later _ _ _ _ _ _ _ (refused_later _ _ _ _ _ _ _
    (refused_here _ _ _ _ _ _ (number_held _ _ _ _ _ c.in-Ok.ensures.element
    (sym (c.is_number.ensures ∙ ap (λ (w : Val UnpackedIndex). same_number w w) c.unpack.ensures) ∙ c.if-not-is_number.true))))

pub returns-in-Err-check_data-clause-took : goal.returns-in-Err-check_data-clause-took
returns-in-Err-check_data-clause-took g c =
    refused_later _ _ _ _ _ _ _ (refused_later _ _ _ _ _ _ _
    (refused_later _ _ _ _ _ _ _ (refused_here _ _ _ _ _ _ (data_held _ _ _ _ c.in-Err-check_data.ensures.err))))
