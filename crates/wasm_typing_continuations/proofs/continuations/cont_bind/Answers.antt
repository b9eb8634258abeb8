use Rattle.std.proofs.Common.{refl, arith}
use Rattle.wasm_typing_continuations.proofs.StepsByOperator.{unbound_argument, unbound_result, too_few, unmatched, bound, fewer_seen, enough_seen, bound_seen, taken_seen}
use Rattle.wasm_typing_continuations.proofs.continuations.cont_bind.Goals as goal

pub returns-in-Err-clause-took : goal.returns-in-Err-clause-took
returns-in-Err-clause-took g c =
    unbound_argument _ _ _ _ _ _ c.in-Err.ensures.err

pub returns-in-Err-continued-clause-took : goal.returns-in-Err-continued-clause-took
returns-in-Err-continued-clause-took g c =
    unbound_result _ _ _ _ _ _ c.in-Err-continued.ensures.err

pub returns-then-params-clause-took : goal.returns-then-params-clause-took
returns-then-params-clause-took g c =
    too_few _ _ _ _ _ _ _ _ c.in-Ok.ensures.ok c.in-Ok-continued.ensures.ok (fewer_seen _ _ _ _ c.params.ensures c.params-2.ensures c.if-params.true)

pub returns-then-not-binds-clause-took : goal.returns-then-not-binds-clause-took
returns-then-not-binds-clause-took g c =
    unmatched _ _ _ _ _ _ c.in-Ok.ensures.ok c.in-Ok-continued.ensures.ok (enough_seen _ _ _ _ c.params.ensures c.params-2.ensures (omega (arith, c.if-params.false))) _ _ _ _
    (bound_seen _ _ _ _ _ c.params-3.ensures c.params-4.ensures refl) c.binds.ensures c.if-not-binds.true

pub returns-clause-took : goal.returns-clause-took
returns-clause-took g c =
    bound _ _ _ _ _ _ c.in-Ok.ensures.ok c.in-Ok-continued.ensures.ok (enough_seen _ _ _ _ c.params.ensures c.params-2.ensures (omega (arith, c.if-params.false))) _ _ _ _ _ _ _ _ c.plain_with.ensures.took
    (bound_seen _ _ _ _ _ c.params-3.ensures c.params-4.ensures refl) c.binds.ensures c.if-not-binds.false (taken_seen _ _ _ c.params-5.ensures) c.nullable.ensures c.non_null_to.ensures
