use Rattle.std.proofs.Common.{sym, ◌∙◌, ap}
use Rattle.wasm_typing_arrays.specs.Segments.{segment_matches}
use Rattle.wasm_typing_checks.proofs.ActionSteps.{needed, refused_here, refused_later, plainly}
use Rattle.wasm_typing_checks.proofs.TypeLookups.{two_i32s_typed}
use Rattle.wasm_typing_checks.proofs.IndexedTypes.{new_typed, barred}
use Rattle.wasm_typing_arrays.proofs.Elements.{segment_held, segment_missing}
use Rattle.wasm_typing_arrays.proofs.made.array_new_elem.Goals as goal

pub returns-in-Err-clause-took : goal.returns-in-Err-clause-took
returns-in-Err-clause-took g c =
    barred _ _ _ _ _ _ _ _ (λ e. refused_here _ _ _ _ _ _ (segment_missing _ _ _ _ e)) c.in-Err.ensures.barred

pub returns-in-Ok-check_elements-clause-took : goal.returns-in-Ok-check_elements-clause-took
returns-in-Ok-check_elements-clause-took g c =
    needed _ _ _ _ _ _ _ c.in-Ok.ensures.on
    (needed _ _ _ _ _ _ _ c.in-Ok.ensures.reached
    (needed _ _ _ _ _ _ _ (segment_held _ _ _ _ _ _ c.in-Ok.ensures.element
    (sym (ap (segment_matches (g.T.WasmModuleResources.context c.args.resources.now) c.args.array_elem_index) c.unpack.ensures) ∙
    c.in-Ok-check_elements.ensures.ok))
    (plainly _ _ _ _ _ _ _ _ _ c.plain.ensures.took (two_i32s_typed _ _ _ _ c.number-number.ensures c.number-number.ensures)
    (new_typed _ _ _ _ _ c.in-Ok.ensures.identity c.new_reference-given.ensures))))

pub returns-in-Err-check_elements-clause-took : goal.returns-in-Err-check_elements-clause-took
returns-in-Err-check_elements-clause-took g c =
    refused_later _ _ _ _ _ _ _ (refused_later _ _ _ _ _ _ _
    (refused_here _ _ _ _ _ _ (segment_held _ _ _ _ _ _ c.in-Ok.ensures.element
    (sym (ap (segment_matches (g.T.WasmModuleResources.context c.args.resources.now) c.args.array_elem_index) c.unpack.ensures) ∙
    c.in-Err-check_elements.ensures.err))))
