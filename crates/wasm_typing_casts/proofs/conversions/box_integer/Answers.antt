use Rattle.std.proofs.Common.{sym, ◌∙◌}
use Rattle.wasm_typing_references.proofs.WasmTypingChecks.ActionSteps.{needed, allows_held, plainly}
use Rattle.wasm_typing_references.proofs.WasmTypingChecks.TypeLookups.{i32_typed}
use Rattle.wasm_typing_casts.proofs.ReferenceConversions.{boxed_typed}
use Rattle.wasm_typing_casts.proofs.conversions.box_integer.Goals as goal

pub returns-clause-took : goal.returns-clause-took
returns-clause-took g c =
    needed _ _ _ _ _ _ _ (allows_held _ _ _ _ (sym c.allows_heap.ensures ∙ c.if-not-allows_heap.false))
    (plainly _ _ _ _ _ _ _ _ _ c.plain.ensures.took (i32_typed _ _ _ c.number.ensures) (boxed_typed _ _ _ _ _ c.abstract_to.ensures c.reference.ensures))
