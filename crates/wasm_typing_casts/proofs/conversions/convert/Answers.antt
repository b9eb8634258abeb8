use Rattle.std.proofs.Common.{rules, sym, ◌∙◌}
use Rattle.wasm_typing_references.proofs.WasmTypingChecks.ActionSteps.{needed, has_held, allows_held, took_ok}
use Rattle.wasm_typing_casts.proofs.ReferenceConversions.{is_converted}
use Rattle.wasm_typing_casts.proofs.conversions.convert.Goals as goal

pub returns-in-Ok-exchange-clause-took : goal.returns-in-Ok-exchange-clause-took
returns-in-Ok-exchange-clause-took g c =
    needed _ _ _ _ _ _ _ (has_held _ _ _ _ (search rules))
    (needed _ _ _ _ _ _ _ (allows_held _ _ _ _ (sym c.allows_heap.ensures ∙ c.if-not-allows_heap.false))
    (took_ok _ _ _ _ (is_converted _ _ _ _ _ _ _ _ c.in-Ok.ensures.0 c.word_of_hierarchy.ensures c.in-Ok-exchange.ensures.ok)))
