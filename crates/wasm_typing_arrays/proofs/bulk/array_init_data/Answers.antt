use Rattle.std.proofs.Common.{sym, ◌∙◌, ap}
use Rattle.wasm_spec.specs.Syntax.{Val}
use Rattle.wasm_readers_types.specs.WasmReadersValues.declared.indices.UnpackedIndex.{UnpackedIndex}
use Rattle.wasm_typing_checks.specs.WasmSpecSteps.Machine.{same_number}
use Rattle.wasm_typing_checks.proofs.ActionSteps.{needed, refused_here, plainly, refused_later}
use Rattle.wasm_typing_checks.proofs.TypeLookups.{nothing_typed, two_i32s_typed, data_held}
use Rattle.wasm_typing_checks.proofs.IndexedTypes.{barred}
use Rattle.wasm_typing_arrays.proofs.Elements.{number_held, array_before, i32_before}
use Rattle.wasm_typing_arrays.proofs.bulk.array_init_data.Goals as goal

pub returns-in-Err-clause-took : goal.returns-in-Err-clause-took
returns-in-Err-clause-took g c =
    barred _ _ _ _ _ _ _ _ (λ e. refused_here _ _ _ _ _ _ e) c.in-Err.ensures.barred

pub returns-in-Ok-check_data-clause-took : goal.returns-in-Ok-check_data-clause-took
returns-in-Ok-check_data-clause-took g c =
    needed _ _ _ _ _ _ _ c.in-Ok.ensures.on
    (needed _ _ _ _ _ _ _ c.in-Ok.ensures.reached
    (needed _ _ _ _ _ _ _ c.in-Ok.ensures.mutable
    (needed _ _ _ _ _ _ _ (number_held _ _ _ _ _ c.in-Ok.ensures.element
    (sym (c.is_number.ensures ∙ ap (λ (w : Val UnpackedIndex). same_number w w) c.unpack.ensures) ∙ c.if-not-is_number.false))
    (needed _ _ _ _ _ _ _ (data_held _ _ _ _ c.in-Ok-check_data.ensures.ok)
    (plainly _ _ _ _ _ _ _ _ _ c.take_four.ensures.took
    (array_before _ _ _ _ _ _ _ c.in-Ok.ensures.identity c.nullable.ensures
    (i32_before _ _ _ _ _ c.number-number.ensures (two_i32s_typed _ _ _ _ c.number-number.ensures c.number-number.ensures))) (nothing_typed _ _))))))

pub returns-then-not-is_number-clause-took : goal.returns-then-not-is_number-clause-took
returns-then-not-is_number-clause-took g c =
    refused_later _ _ _ _ _ _ _ (refused_later _ _ _ _ _ _ _
    (refused_later _ _ _ _ _ _ _ (refused_here _ _ _ _ _ _
    (number_held _ _ _ _ _ c.in-Ok.ensures.element
    (sym (c.is_number.ensures ∙ ap (λ (w : Val UnpackedIndex). same_number w w) c.unpack.ensures) ∙ c.if-not-is_number.true)))))

pub returns-in-Err-check_data-clause-took : goal.returns-in-Err-check_data-clause-took
returns-in-Err-check_data-clause-took g c =
    refused_later _ _ _ _ _ _ _ (refused_later _ _ _ _ _ _ _
    (refused_later _ _ _ _ _ _ _ (refused_later _ _ _ _ _ _ _ (refused_here _ _ _ _ _ _ (data_held _ _ _ _ c.in-Err-check_data.ensures.err)))))
