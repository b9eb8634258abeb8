use Rattle.std.proofs.Common.{sym, ◌∙◌}
use Rattle.wasm_typing_structs.proofs.AtomicAccesses.{table_accessed}
use Rattle.wasm_typing_structs.proofs.shared.access_table.Goals as goal

pub returns-clause-took : goal.returns-clause-took
returns-clause-took g c =
    table_accessed _ _ _ _ _ c.in-Some.ty _ _ _ _ c.in-Some.ensures (sym c.reaches.ensures ∙ c.if-not-reaches.false) (sym c.allows.ensures ∙ c.if-not-allows.false)
    c.address.ensures c.reference.ensures c.exchange.ensures.took
