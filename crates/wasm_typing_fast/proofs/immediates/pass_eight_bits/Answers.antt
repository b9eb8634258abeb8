use Rattle.wasm_typing_fast.proofs.NumberBytes.{eight_low, eight_high, eight_not, none_at, none_behind, none_here, on_err, sign_none}
use Rattle.wasm_typing_fast.proofs.immediates.pass_eight_bits.Goals as goal

pub returns-then-sign-eq0-clause-ok : goal.returns-then-sign-eq0-clause-ok
returns-then-sign-eq0-clause-ok c =
    eight_low _ _ _ _ _ c.in_ok-next_byte.ensures.ok c.if-branch-lt128.false c.in_ok-sign.ensures.ok c.if-sign-eq0.true

pub returns-then-sign-eq127-clause-ok : goal.returns-then-sign-eq127-clause-ok
returns-then-sign-eq127-clause-ok c =
    eight_high _ _ _ _ _ c.in_ok-next_byte.ensures.ok c.if-branch-lt128.false c.in_ok-sign.ensures.ok c.if-sign-eq127.true

pub returns-in_err-sign-clause-none : goal.returns-in_err-sign-clause-none
returns-in_err-sign-clause-none c = on_err _ (none_at 8 _ (none_behind _ _ _ (none_here _ c.in_err-sign.ensures.none) c.in_ok-next_byte.ensures.ok c.if-branch-lt128.false))

pub returns-clause-none : goal.returns-clause-none
returns-clause-none c = eight_not _ _ _ c.in_ok-next_byte.ensures.ok c.if-branch-lt128.false (sign_none _ _ _ c.in_ok-sign.ensures.ok c.if-sign-eq0.false c.if-sign-eq127.false)
