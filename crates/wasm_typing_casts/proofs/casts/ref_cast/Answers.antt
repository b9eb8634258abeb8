use Rattle.std.proofs.Common.{rules, sym, ◌∙◌}
use Rattle.wasm_typing_references.proofs.WasmTypingChecks.ActionSteps.{needed, has_held, allows_held, plainly, refused_here, refused_later}
use Rattle.wasm_typing_references.proofs.WrittenHeapTypes.{reference_typed}
use Rattle.wasm_typing_casts.proofs.HierarchyTops.{tested_held, top_typed}
use Rattle.wasm_typing_casts.proofs.casts.ref_cast.Goals as goal

pub returns-in-Some-resolve-clause-took : goal.returns-in-Some-resolve-clause-took
returns-in-Some-resolve-clause-took g c =
    needed _ _ _ _ _ _ _ (has_held _ _ _ _ (search rules))
    (needed _ _ _ _ _ _ _ (allows_held _ _ _ _ (sym c.allows_heap.ensures ∙ c.if-not-allows_heap.false))
    (needed _ _ _ _ _ _ _ (tested_held _ _ _ _ _ _ _ c.in-Some.ensures c.can_be_tested.ensures c.if-not-can_be_tested.false)
    (plainly _ _ _ _ _ _ _ _ _ c.plain.ensures.took (top_typed _ _ _ _ _ _ _ c.in-Some.ensures c.abstract_to.ensures c.reference.ensures) (reference_typed _ _ _ _ _ c.in-Some-resolve.ensures c.reference-in-Some-resolve.ensures))))

pub returns-then-not-can_be_tested-clause-took : goal.returns-then-not-can_be_tested-clause-took
returns-then-not-can_be_tested-clause-took g c =
    refused_later _ _ _ _ _ _ _
    (refused_later _ _ _ _ _ _ _ (refused_here _ _ _ _ _ _ (tested_held _ _ _ _ _ _ _ c.in-Some.ensures c.can_be_tested.ensures c.if-not-can_be_tested.true)))
