use Rattle.std.proofs.Common.{sym, ◌∙◌}
use Rattle.wasm_typing_checks.proofs.ActionSteps.{plainly}
use Rattle.wasm_typing_numbers.proofs.FormTypes.{formed, suited_alone, suited_there, taken_typed, taken_above_typed, result_typed}
use Rattle.wasm_typing_numbers.proofs.forms.step_by_form.Goals as goal

pub returns-else-not-has_room-clause-took : goal.returns-else-not-has_room-clause-took
returns-else-not-has_room-clause-took g c =
    let suits = sym c.suits_form.ensures ∙ c.if-not-suits_form.false in
    formed _ _ _ _ _ _ _ _ _ _
    (suited_there _ _ _ _ _ _ _ suits c.in-Some.ensures c.in-Some-memory_at.ensures (sym c.has_room.ensures ∙ c.if-not-has_room.false))
    c.operands_of-takes.ensures c.result_of-gives.ensures (sym c.if-not-allows_types.false ∙ c.allows_types.ensures)
    (plainly _ _ _ _ _ _ _ _ _ c.plain.ensures.took
    (taken_above_typed _ _ _ _ _ _ _ _ _ suits c.in-Some.ensures c.in-Some-memory_at.ensures c.address.ensures c.operands_of-takes.ensures c.taken_above.ensures)
    (result_typed _ _ _ _ _ c.result_of-gives.ensures c.given.ensures))

pub returns-in-None-clause-took : goal.returns-in-None-clause-took
returns-in-None-clause-took g c =
    let suits = sym c.suits_form.ensures ∙ c.if-not-suits_form.false in
    formed _ _ _ _ _ _ _ _ _ _
    (suited_alone _ _ _ _ suits c.in-None.ensures)
    c.operands_of-takes.ensures c.result_of-gives.ensures (sym c.if-not-allows_types.false ∙ c.allows_types.ensures)
    (plainly _ _ _ _ _ _ _ _ _ c.plain-in-None.ensures.took
    (taken_typed _ _ _ _ _ _ c.in-None.ensures c.operands_of-takes.ensures c.taken.ensures)
    (result_typed _ _ _ _ _ c.result_of-gives.ensures c.given-in-None.ensures))
