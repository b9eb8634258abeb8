use Rattle.wasm_typing_fast.proofs.NumberBytes.{pass_two, pass_three, pass_four, pass_on, none_here, none_behind, on_err}
use Rattle.wasm_typing_fast.proofs.immediates.pass_four.Goals as goal

pub returns-then-branch-lt128-2-clause-ok : goal.returns-then-branch-lt128-2-clause-ok
returns-then-branch-lt128-2-clause-ok c =
    pass_two _ _ _ _ _ c.in_ok-next_byte.ensures.ok c.if-branch-lt128.false c.in_ok-next_byte-2.ensures.ok c.if-branch-lt128-2.true

pub returns-then-branch-lt128-3-clause-ok : goal.returns-then-branch-lt128-3-clause-ok
returns-then-branch-lt128-3-clause-ok c =
    pass_three _ _ _ _ _ _ _ c.in_ok-next_byte.ensures.ok c.if-branch-lt128.false c.in_ok-next_byte-2.ensures.ok c.if-branch-lt128-2.false c.in_ok-next_byte-3.ensures.ok c.if-branch-lt128-3.true

pub returns-then-branch-lt128-4-clause-ok : goal.returns-then-branch-lt128-4-clause-ok
returns-then-branch-lt128-4-clause-ok c =
    pass_four _ _ _ _ _ _ _ _ _ c.in_ok-next_byte.ensures.ok c.if-branch-lt128.false c.in_ok-next_byte-2.ensures.ok c.if-branch-lt128-2.false c.in_ok-next_byte-3.ensures.ok c.if-branch-lt128-3.false c.in_ok-next_byte-4.ensures.ok c.if-branch-lt128-4.true

pub returns-clause-ok : goal.returns-clause-ok
returns-clause-ok c =
    pass_on _ _ _ _ _ _ _ _ _ c.in_ok-next_byte.ensures.ok c.if-branch-lt128.false c.in_ok-next_byte-2.ensures.ok c.if-branch-lt128-2.false c.in_ok-next_byte-3.ensures.ok c.if-branch-lt128-3.false c.in_ok-next_byte-4.ensures.ok c.if-branch-lt128-4.false

pub returns-in_err-next_byte-2-clause-none : goal.returns-in_err-next_byte-2-clause-none
returns-in_err-next_byte-2-clause-none c = on_err _ (none_behind _ _ _ (none_here _ c.in_err-next_byte-2.ensures.none) c.in_ok-next_byte.ensures.ok c.if-branch-lt128.false)

pub returns-in_err-next_byte-3-clause-none : goal.returns-in_err-next_byte-3-clause-none
returns-in_err-next_byte-3-clause-none c =
    on_err _ (none_behind _ _ _ (none_behind _ _ _ (none_here _ c.in_err-next_byte-3.ensures.none) c.in_ok-next_byte-2.ensures.ok c.if-branch-lt128-2.false) c.in_ok-next_byte.ensures.ok c.if-branch-lt128.false)

pub returns-in_err-next_byte-4-clause-none : goal.returns-in_err-next_byte-4-clause-none
returns-in_err-next_byte-4-clause-none c =
    on_err _ (none_behind _ _ _ (none_behind _ _ _ (none_behind _ _ _ (none_here _ c.in_err-next_byte-4.ensures.none) c.in_ok-next_byte-3.ensures.ok c.if-branch-lt128-3.false) c.in_ok-next_byte-2.ensures.ok c.if-branch-lt128-2.false)
    c.in_ok-next_byte.ensures.ok c.if-branch-lt128.false)
