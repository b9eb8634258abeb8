use Rattle.std.proofs.Common.{true, false, sym, ◌∙◌}
use Rattle.wasm_typing_blocks.proofs.CatchOperands.{sent_to}
use Rattle.wasm_typing_blocks.proofs.catches.check_sent.Goals as goal

pub returns-then-match_types : goal.returns-then-match_types
returns-then-match_types g c =
    sent_to _ _ _ _ _ true c.in-Some.ensures (sym c.if-match_types.true ∙ c.match_types.ensures)

pub returns-else-match_types : goal.returns-else-match_types
returns-else-match_types g c =
    sent_to _ _ _ _ _ false c.in-Some.ensures (sym c.if-match_types.false ∙ c.match_types.ensures)
