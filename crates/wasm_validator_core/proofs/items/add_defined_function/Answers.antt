use Rattle.std.proofs.Common.{sym, arith}
use Rattle.wasm_validator_checks.specs.ModuleTypes.{module_types}
use Rattle.wasm_validator_checks.proofs.ListedTypes.{length_module_types}
use Rattle.wasm_validator_checks.proofs.AcceptedItems.{function_inside}
use Rattle.wasm_validator_core.proofs.items.add_defined_function.Goals as goal

pub place_function-requires : goal.place_function-requires
place_function-requires g c =
    let list = c.args.list.now in
    let ids = c.known_ids.result.now in
    let inside = function_inside (module_types list ids) c.args.type_index (sym c.in_ok-func_type_at.ensures.function) in
    let count = c.known_ids.ensures.count in
    let many = length_module_types list ids in
    omega (arith, inside, count, many)
