use Rattle.std.proofs.Common.{ap, length, arith, length-append}
use Rattle.wasm_validator_type_list.specs.WasmValidatorTypeGroups.Elements.{ids_left}
use Rattle.wasm_validator_canonical.proofs.modules.InternRecGroup.add_type_ids.Goals as goal

pub add_type_id-requires : goal.add_type_id-requires
add_type_id-requires g c =
    let ids = g.Self.InternRecGroup.ids in
    let all = ap length c.ids.invariant.0 in
    let here = length-append (ids c.ids.self) (ids_left c.ids.elements) in
    let before = length-append (ids c.args.self.now) (ids_left c.args.elements) in
    let step = ap length c.in-Some.ensures.steps in
    let room = c.requires in
    record { room = omega (arith, all, here, before, step, room) }
