use Rattle.std.proofs.Common.{sym, ◌∙◌, ap}
use Rattle.std.specs.Option.{option_map}
use Rattle.wasm_typing_references.specs.WasmSpec.Syntax.{reference}
use Rattle.wasm_typing_references.specs.WasmReadersTypes.SeenTypes.{sub_of}
use Rattle.wasm_typing_references.specs.WasmReadersTypes.WasmReadersValues.SeenValues.{index_of}
use Rattle.wasm_typing_references.proofs.WasmTypingChecks.ActionSteps.{needed, refused_here, refused_later}
use Rattle.wasm_typing_casts.proofs.DescriptorTypes.{operators_held, types_held, reach_held, given_exactly, given_otherwise}
use Rattle.wasm_typing_casts.proofs.descriptors.ref_get_desc.Goals as goal

pub returns-then-not-reaches-clause-took : goal.returns-then-not-reaches-clause-took
returns-then-not-reaches-clause-took g c =
    refused_later _ _ _ _ _ _ _
    (refused_later _ _ _ _ _ _ _ (refused_here _ _ _ _ _ _ (reach_held _ _ _ (sub_of c.in-Some-sub_type_at.sub.now) _ c.in-Some-sub_type_at.ensures (sym c.reaches.ensures ∙ c.if-not-reaches.true))))

pub returns-in-Ok-clause-took : goal.returns-in-Ok-clause-took
returns-in-Ok-clause-took g c =
    needed _ _ _ _ _ _ _ (operators_held _ _ c.in_default.ensures)
    (needed _ _ _ _ _ _ _ (types_held _ _ c.in_default.ensures)
    (needed _ _ _ _ _ _ _ (reach_held _ _ _ (sub_of c.in-Some-sub_type_at.sub.now) _ c.in-Some-sub_type_at.ensures (sym c.reaches.ensures ∙ c.if-not-reaches.false))
    (given_exactly _ _ _ _ _ (sub_of c.in-Some-sub_type_at.sub.now) c.in-Some-identity.ensures c.in-Some-sub_type_at.ensures (ap (option_map index_of) c.in-Some-descriptor_idx.is) _ _ _ _ _ _ c.plain.ensures.took c.in-Ok.ensures.0 c.exact_or_null-exactly.ensures
    (c.reference.ensures ∙ ap reference c.exact_to.ensures))))

pub returns-in-Err-clause-took : goal.returns-in-Err-clause-took
returns-in-Err-clause-took g c =
    needed _ _ _ _ _ _ _ (operators_held _ _ c.in_default.ensures)
    (needed _ _ _ _ _ _ _ (types_held _ _ c.in_default.ensures)
    (needed _ _ _ _ _ _ _ (reach_held _ _ _ (sub_of c.in-Some-sub_type_at.sub.now) _ c.in-Some-sub_type_at.ensures (sym c.reaches.ensures ∙ c.if-not-reaches.false))
    (given_otherwise _ _ _ _ _ (sub_of c.in-Some-sub_type_at.sub.now) c.in-Some-identity.ensures c.in-Some-sub_type_at.ensures (ap (option_map index_of) c.in-Some-descriptor_idx.is) _ _ _ _ _ _ c.plain-in-Err.ensures.took c.in-Err.ensures
    c.exact_or_null-exactly.ensures c.nullable.ensures (c.reference-in-Err.ensures ∙ ap reference c.concrete.ensures))))
