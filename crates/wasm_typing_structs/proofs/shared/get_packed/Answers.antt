use Rattle.std.proofs.Common.{sym, ◌∙◌}
use Rattle.wasm_typing_structs.proofs.Members.{packed_refused, packed_given}
use Rattle.wasm_typing_structs.proofs.shared.get_packed.Goals as goal

pub returns-then-not-is_packed-clause-took : goal.returns-then-not-is_packed-clause-took
returns-then-not-is_packed-clause-took g c = packed_refused _ _ _ _ _ _ _ _ c.in_ok-member.ensures.member (sym c.is_packed.ensures ∙ c.if-not-is_packed.true)

pub returns-clause-took : goal.returns-clause-took
returns-clause-took g c =
    packed_given _ _ _ _ _ _ _ _ _ _ _ _ c.in_ok-member.ensures.identity c.in_ok-member.ensures.member c.in_ok-member.ensures.on c.in_ok-member.ensures.reached
    (sym c.is_packed.ensures ∙ c.if-not-is_packed.false) c.address_in.ensures c.number.ensures c.exchange.ensures.took
