use Rattle.std.proofs.Common.{◌≡◌, ◌++◌, length}
use Rattle.wasm_validator_type_list.specs.WasmValidatorTypeGroups.Elements.{ids_left}
use Rattle.wasm_validator_canonical.proofs.modules.InternRecGroup.add_type_ids.Given as goal

abbrev pub invariant-ids : goal.invariant-ids
invariant-ids g l =
    (g.Self.InternRecGroup.ids l.self ++ ids_left l.elements ≡ g.Self.InternRecGroup.ids l.fn.self ++ ids_left l.fn.elements)
    × (g.Self.InternRecGroup.others l.self ≡ g.Self.InternRecGroup.others l.fn.self)

abbrev pub decreases-ids : goal.decreases-ids
decreases-ids g l = length (ids_left l.elements)
