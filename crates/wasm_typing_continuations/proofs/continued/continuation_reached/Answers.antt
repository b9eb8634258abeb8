use Rattle.std.proofs.Common.{sym, ◌∙◌, ap}
use Rattle.wasm_typing_control.specs.WasmReadersTypes.SeenTypes.{comp_of, sub_of}
use Rattle.wasm_typing_control.specs.WasmTypingChecks.WasmSpecSteps.Meanings.{cont_of}
use Rattle.wasm_typing_continuations.proofs.ContinuationTypes.{not_of_continuations, is_reached, not_reached, not_a_continuation}
use Rattle.wasm_typing_continuations.proofs.continued.continuation_reached.Goals as goal

pub returns-then-reaches-clause-ok : goal.returns-then-reaches-clause-ok
returns-then-reaches-clause-ok g c =
    is_reached _ _ _ (sub_of c.in-Some.ty.now) _ c.in-Some.ensures (ap (λ i. cont_of (comp_of i)) c.in-Cont.is) (sym c.reaches.ensures ∙ c.if-reaches.true)

pub returns-else-reaches-clause-err : goal.returns-else-reaches-clause-err
returns-else-reaches-clause-err g c =
    not_reached _ _ _ (sub_of c.in-Some.ty.now) c.in-Some.ensures (sym c.reaches.ensures ∙ c.if-reaches.false)

pub returns-in_default : goal.returns-in_default
returns-in_default g c =
    record { ok = tt; err = not_a_continuation _ _ _ (sub_of c.in-Some.ty.now) c.in-Some.ensures (not_of_continuations c.in-Some.ty.now.composite_type.inner c.in_default.not-Cont) }
