use Rattle.std.proofs.Common.{ap, ◌∙◌}
use Rattle.wasm_spec.specs.Syntax.{map_comp}
use Rattle.wasm_readers_types.specs.WasmReadersValues.SeenValues.{index_of}
use Rattle.wasm_readers_types.specs.SeenTypes.{comp_of}
use Rattle.wasm_validator_type_list.specs.DeclarationsById.{declares}
use Rattle.wasm_validator_type_list.specs.GroupTypes.{leads_in}
use Rattle.wasm_validator_type_checks.proofs.RefusalSteps.{continuation_tells}
use Rattle.wasm_validator_type_checks.proofs.composite_types.check_continuation.Goals as goal

pub returns-in-Cont-clause-told : goal.returns-in-Cont-clause-told
returns-in-Cont-clause-told g c =
    let leads = leads_in c.args.types.now.groups c.args.group.index in
    continuation_tells c.args.offset (declares c.args.types.now.groups) c.hold.result c.is_function.result (map_comp leads (comp_of c.args.inner.now)) (leads (index_of c.in-Cont.continuation.0))
    c.id_at-id.result.index c.index.result (ap (λ i. map_comp leads (comp_of i)) c.in-Cont.is) (c.id_at-id.ensures.id ∙ ap leads c.unpack.ensures.value) c.index.ensures
    c.hold.ensures.allowed c.is_function.ensures c.hold.ensures.refusal
