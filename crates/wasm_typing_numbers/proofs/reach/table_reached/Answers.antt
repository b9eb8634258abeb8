use Rattle.std.proofs.Common.{sym, ◌∙◌}
use Rattle.wasm_typing_numbers.proofs.TableLookups.{is_reached, isnt_reached, isnt_there}
use Rattle.wasm_typing_numbers.proofs.reach.table_reached.Goals as goal

pub returns-then-reaches-clause-ok : goal.returns-then-reaches-clause-ok
returns-then-reaches-clause-ok g c =
    is_reached _ _ _ c.in-Some.ty c.in-Some.ensures (sym c.reaches.ensures ∙ c.if-reaches.true)

pub returns-else-reaches-clause-err : goal.returns-else-reaches-clause-err
returns-else-reaches-clause-err g c =
    isnt_reached _ _ _ c.in-Some.ty c.in-Some.ensures (sym c.reaches.ensures ∙ c.if-reaches.false)

pub returns-in-None-clause-err : goal.returns-in-None-clause-err
returns-in-None-clause-err g c =
    isnt_there _ _ _ c.in-None.ensures
