use Rattle.std.proofs.Common.{sym, ◌∙◌, ap}
use Rattle.wasm_readers_types.specs.SeenTypes.{comp_of, sub_of}
use Rattle.wasm_typing_numbers.specs.WasmTypingChecks.WasmValidatorResources.WasmSpecRules.Signatures.{signature_of}
use Rattle.wasm_typing_control.proofs.CallLookups.{unsigned, type_found, type_unshared, type_unsigned, type_unknown}
use Rattle.wasm_typing_control.proofs.reach.type_reached.Goals as goal

pub returns-then-reaches-clause-ok : goal.returns-then-reaches-clause-ok
returns-then-reaches-clause-ok g c =
    type_found _ _ _ (sub_of c.in-Some.ty.now) _ c.in-Some.ensures (ap (λ i. signature_of (comp_of i)) c.in-Func.is) (sym c.reaches.ensures ∙ c.if-reaches.true)

pub returns-else-reaches-clause-err : goal.returns-else-reaches-clause-err
returns-else-reaches-clause-err g c =
    type_unshared _ _ _ (sub_of c.in-Some.ty.now) c.in-Some.ensures (sym c.reaches.ensures ∙ c.if-reaches.false)

pub returns-in_default : goal.returns-in_default
returns-in_default g c =
    record { ok = tt; err = type_unsigned _ _ _ (sub_of c.in-Some.ty.now) c.in-Some.ensures (unsigned c.in-Some.ty.now.composite_type.inner c.in_default.not-Func) }

pub returns-in-None-clause-err : goal.returns-in-None-clause-err
returns-in-None-clause-err g c =
    type_unknown _ _ _ c.in-None.ensures
