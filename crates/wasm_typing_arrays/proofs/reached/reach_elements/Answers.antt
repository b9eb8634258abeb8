use Rattle.std.proofs.Common.{sym, ◌∙◌}
use Rattle.wasm_readers_types.specs.SeenTypes.{sub_of}
use Rattle.wasm_typing_checks.specs.DeclaredTypes.{is_unreached}
use Rattle.wasm_typing_checks.proofs.IndexedTypes.{reached_held}
use Rattle.wasm_typing_arrays.proofs.reached.reach_elements.Goals as goal

pub returns-then-not-reaches-clause-barred : goal.returns-then-not-reaches-clause-barred
returns-then-not-reaches-clause-barred g c =
    is_unreached (reached_held _ _ _ (sub_of c.in-Some-sub_type_at.sub.now) _ c.in-Some-sub_type_at.ensures (sym c.reaches.ensures ∙ c.if-not-reaches.true))

pub returns-else-not-reaches-clause-reached : goal.returns-else-not-reaches-clause-reached
returns-else-not-reaches-clause-reached g c =
    reached_held _ _ _ (sub_of c.in-Some-sub_type_at.sub.now) _ c.in-Some-sub_type_at.ensures (sym c.reaches.ensures ∙ c.if-not-reaches.false)
