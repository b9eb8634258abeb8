use Rattle.wasm_typing_blocks.proofs.CatchOperands.{sent_with}
use Rattle.wasm_typing_blocks.proofs.catches.check_sent_with_reference.Goals as goal

pub returns-then-match_sent_with : goal.returns-then-match_sent_with
returns-then-match_sent_with g c =
    sent_with _ _ _ _ _ _ _ _ c.in-Some.ensures c.exception.ensures c.match_sent_with.ensures c.if-match_sent_with.true

pub returns-else-match_sent_with : goal.returns-else-match_sent_with
returns-else-match_sent_with g c =
    sent_with _ _ _ _ _ _ _ _ c.in-Some.ensures c.exception.ensures c.match_sent_with.ensures c.if-match_sent_with.false
