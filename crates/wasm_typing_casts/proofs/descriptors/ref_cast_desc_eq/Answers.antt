use Rattle.std.proofs.Common.{rules, sym, ◌∙◌}
use Rattle.wasm_typing_references.proofs.WasmTypingChecks.ActionSteps.{needed, has_held, allows_held, plainly, refused_here, refused_later, refused_takes}
use Rattle.wasm_typing_references.proofs.WasmTypingChecks.TypeLookups.{joined_typed, second_untyped}
use Rattle.wasm_typing_references.proofs.WrittenHeapTypes.{reference_typed}
use Rattle.wasm_typing_casts.proofs.HierarchyTops.{tested_held, top_typed}
use Rattle.wasm_typing_casts.proofs.DescriptorTypes.{operators_held, types_held, descriptor_typed, descriptor_untyped}
use Rattle.wasm_typing_casts.proofs.descriptors.ref_cast_desc_eq.Goals as goal

pub returns-in-Some-resolve-clause-took : goal.returns-in-Some-resolve-clause-took
returns-in-Some-resolve-clause-took g c =
    needed _ _ _ _ _ _ _ (operators_held _ _ c.in_default.ensures)
    (needed _ _ _ _ _ _ _ (types_held _ _ c.in_default.ensures)
    (needed _ _ _ _ _ _ _ (has_held _ _ _ _ (search rules))
    (needed _ _ _ _ _ _ _ (allows_held _ _ _ _ (sym c.allows_heap.ensures ∙ c.if-not-allows_heap.false))
    (needed _ _ _ _ _ _ _ (tested_held _ _ _ _ _ _ _ c.in-Some-top_of.ensures c.can_be_tested.ensures c.if-not-can_be_tested.false)
    (plainly _ _ _ _ _ _ _ _ _ c.plain.ensures.took
    (joined_typed _ _ _ _ _ _ (top_typed _ _ _ _ _ _ _ c.in-Some-top_of.ensures c.abstract_to.ensures c.reference-top.ensures) (descriptor_typed _ _ _ _ c.in-Some-descriptor_for.ensures))
    (reference_typed _ _ _ _ _ c.in-Some-resolve.ensures c.reference.ensures))))))

pub returns-in-None-descriptor_for-clause-took : goal.returns-in-None-descriptor_for-clause-took
returns-in-None-descriptor_for-clause-took g c =
    refused_later _ _ _ _ _ _ _
    (refused_later _ _ _ _ _ _ _
    (refused_later _ _ _ _ _ _ _
    (refused_later _ _ _ _ _ _ _
    (refused_later _ _ _ _ _ _ _ (refused_takes _ _ _ _ _ _ (second_untyped _ _ _ _ (descriptor_untyped _ _ _ c.in-None-descriptor_for.ensures)))))))

pub returns-then-not-can_be_tested-clause-took : goal.returns-then-not-can_be_tested-clause-took
returns-then-not-can_be_tested-clause-took g c =
    refused_later _ _ _ _ _ _ _
    (refused_later _ _ _ _ _ _ _
    (refused_later _ _ _ _ _ _ _
    (refused_later _ _ _ _ _ _ _ (refused_here _ _ _ _ _ _ (tested_held _ _ _ _ _ _ _ c.in-Some-top_of.ensures c.can_be_tested.ensures c.if-not-can_be_tested.true)))))
