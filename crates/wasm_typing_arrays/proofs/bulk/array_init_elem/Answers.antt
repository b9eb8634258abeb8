use Rattle.std.proofs.Common.{sym, ◌∙◌, ap}
use Rattle.wasm_typing_arrays.specs.Segments.{segment_matches}
use Rattle.wasm_typing_checks.proofs.ActionSteps.{needed, refused_here, plainly, refused_later}
use Rattle.wasm_typing_checks.proofs.TypeLookups.{nothing_typed, two_i32s_typed}
use Rattle.wasm_typing_checks.proofs.IndexedTypes.{barred}
use Rattle.wasm_typing_arrays.proofs.Elements.{segment_held, array_before, i32_before}
use Rattle.wasm_typing_arrays.proofs.bulk.array_init_elem.Goals as goal

pub returns-in-Err-clause-took : goal.returns-in-Err-clause-took
returns-in-Err-clause-took g c =
    barred _ _ _ _ _ _ _ _ (λ e. refused_here _ _ _ _ _ _ e) c.in-Err.ensures.barred

pub returns-in-Ok-check_elements-clause-took : goal.returns-in-Ok-check_elements-clause-took
returns-in-Ok-check_elements-clause-took g c =
    needed _ _ _ _ _ _ _ c.in-Ok.ensures.on
    (needed _ _ _ _ _ _ _ c.in-Ok.ensures.reached
    (needed _ _ _ _ _ _ _ c.in-Ok.ensures.mutable
    (needed _ _ _ _ _ _ _ (segment_held _ _ _ _ _ _ c.in-Ok.ensures.element
    (sym (ap (segment_matches (g.T.WasmModuleResources.context c.args.resources.now) c.args.array_elem_index) c.unpack.ensures) ∙
    c.in-Ok-check_elements.ensures.ok))
    (plainly _ _ _ _ _ _ _ _ _ c.take_four.ensures.took
    (array_before _ _ _ _ _ _ _ c.in-Ok.ensures.identity c.nullable.ensures
    (i32_before _ _ _ _ _ c.number-number.ensures (two_i32s_typed _ _ _ _ c.number-number.ensures c.number-number.ensures))) (nothing_typed _ _)))))

pub returns-in-Err-check_elements-clause-took : goal.returns-in-Err-check_elements-clause-took
returns-in-Err-check_elements-clause-took g c =
    refused_later _ _ _ _ _ _ _ (refused_later _ _ _ _ _ _ _
    (refused_later _ _ _ _ _ _ _ (refused_here _ _ _ _ _ _
    (segment_held _ _ _ _ _ _ c.in-Ok.ensures.element
    (sym (ap (segment_matches (g.T.WasmModuleResources.context c.args.resources.now) c.args.array_elem_index) c.unpack.ensures) ∙
    c.in-Err-check_elements.ensures.err)))))
