use Rattle.std.proofs.Common.{rules, sym, ◌∙◌}
use Rattle.wasm_typing_control.proofs.WasmTypingChecks.ActionSteps.{needed, has_held, allows_held, plainly}
use Rattle.wasm_typing_control.proofs.WasmTypingChecks.TypeLookups.{nothing_typed}
use Rattle.wasm_typing_references.proofs.WrittenHeapTypes.{reference_typed}
use Rattle.wasm_typing_references.proofs.nulls.ref_null.Goals as goal

pub returns-in-Some-clause-took : goal.returns-in-Some-clause-took
returns-in-Some-clause-took g c =
    needed _ _ _ _ _ _ _ (has_held _ _ _ _ (search rules))
    (needed _ _ _ _ _ _ _ (allows_held _ _ _ _ (sym c.allows_heap.ensures ∙ c.if-not-allows_heap.false))
    (plainly _ _ _ _ _ _ _ _ _ c.plain.ensures.took (nothing_typed _ _) (reference_typed _ _ _ _ _ c.in-Some.ensures c.reference.ensures)))
