use Rattle.std.proofs.Common.{sym, ◌∙◌}
use Rattle.wasm_typing_structs.proofs.AtomicAccesses.{global_accessed}
use Rattle.wasm_typing_structs.proofs.shared.access_global.Goals as goal

pub returns-clause-took : goal.returns-clause-took
returns-clause-took g c =
    global_accessed _ _ _ _ _ c.args.ty _ _ _ c.requires (sym c.reaches.ensures ∙ c.if-not-reaches.false) (sym c.is_writable.ensures ∙ c.if-not-is_writable.false)
    (sym c.allows.ensures ∙ c.if-not-allows.false) c.new.ensures c.exchange.ensures.took
