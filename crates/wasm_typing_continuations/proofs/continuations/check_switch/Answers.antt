use Rattle.std.proofs.Common.{true, false, ◌∙◌}
use Rattle.wasm_typing_continuations.proofs.StepsByOperator.{empty_seen, takes_something, is_between}
use Rattle.wasm_typing_continuations.proofs.continuations.check_switch.Goals as goal

pub returns-then-not-is_empty : goal.returns-then-not-is_empty
returns-then-not-is_empty g c = takes_something _ _ _ _ _ c.in-Ok.ensures.ok (empty_seen _ _ _ c.is_empty.ensures c.params.ensures ∙ c.if-not-is_empty.true)

pub returns-then-not-is_between : goal.returns-then-not-is_between
returns-then-not-is_between g c =
    is_between _ _ _ _ _ _ false c.in-Ok.ensures.ok (empty_seen _ _ _ c.is_empty.ensures c.params.ensures ∙ c.if-not-is_empty.false) c.is_between.ensures c.if-not-is_between.true

pub returns : goal.returns
returns g c =
    is_between _ _ _ _ _ _ true c.in-Ok.ensures.ok (empty_seen _ _ _ c.is_empty.ensures c.params.ensures ∙ c.if-not-is_empty.false) c.is_between.ensures c.if-not-is_between.false
