use Rattle.std.proofs.Common.{sym, arith}
use Rattle.wasm_spec_rules.specs.FeatureFlags.{features_of}
use Rattle.wasm_validator_checks.specs.ModuleTypes.{module_types}
use Rattle.wasm_validator_checks.proofs.ListedTypes.{length_module_types}
use Rattle.wasm_validator_checks.proofs.AcceptedItems.{tag_inside}
use Rattle.wasm_validator_core.proofs.items.add_defined_tag.Goals as goal

pub place_tag-requires : goal.place_tag-requires
place_tag-requires g c =
    let list = c.args.list.now in
    let ids = c.known_ids.result.now in
    let inside = tag_inside (features_of c.args.features) (module_types list ids) c.args.ty.func_type_idx (sym c.in_ok-check_tag_type.ensures.allowed) in
    let count = c.known_ids.ensures.count in
    let many = length_module_types list ids in
    omega (arith, inside, count, many)
