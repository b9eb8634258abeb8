use Rattle.std.proofs.Common.{refl}
use Rattle.wasm_typing_references.proofs.WasmTypingChecks.ActionSteps.{took_refused}
use Rattle.wasm_typing_casts.proofs.CastBranches.{unsent_type, is_sent}
use Rattle.wasm_typing_casts.proofs.sends.send.Goals as goal

pub returns-clause-took : goal.returns-clause-took
returns-clause-took g c =
    is_sent _ _ _ _ _ _ _ _ _ _ _ _ _ _ _ _ _ c.exchange_top.ensures.took c.in-Some.ensures c.in-Some-last_type.ensures c.ty.ensures c.is_subtype.ensures c.if-not-is_subtype.false c.front_types.ensures c.reference.ensures c.reference-2.ensures

pub returns-then-not-is_subtype-clause-took : goal.returns-then-not-is_subtype-clause-took
returns-then-not-is_subtype-clause-took g c =
    took_refused _ _ _ _ (unsent_type _ _ _ _ _ _ _ _ _ _ _ c.in-Some.ensures c.in-Some-last_type.ensures c.ty.ensures c.is_subtype.ensures c.if-not-is_subtype.true) refl
