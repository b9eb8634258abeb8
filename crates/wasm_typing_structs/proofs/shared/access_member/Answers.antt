use Rattle.std.proofs.Common.{sym, ◌∙◌}
use Rattle.wasm_typing_structs.proofs.Members.{member_unwritten, member_accessed}
use Rattle.wasm_typing_structs.proofs.shared.access_member.Goals as goal

pub returns-then-not-is_writable-clause-took : goal.returns-then-not-is_writable-clause-took
returns-then-not-is_writable-clause-took g c = member_unwritten _ _ _ _ _ _ _ _ _ c.in_ok-member.ensures.member (sym c.is_writable.ensures ∙ c.if-not-is_writable.true)

pub returns-clause-took : goal.returns-clause-took
returns-clause-took g c =
    member_accessed _ _ _ _ _ _ _ _ _ _ _ _ _ c.in_ok-member.ensures.identity c.in_ok-member.ensures.member c.in_ok-member.ensures.on c.in_ok-member.ensures.reached
    (sym c.is_writable.ensures ∙ c.if-not-is_writable.false) c.in_ok-check_stored.ensures.ok c.address_in.ensures (c.new.ensures ∙ c.unpack.ensures) c.exchange.ensures.took
