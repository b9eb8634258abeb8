use Rattle.wasm_validator_type_checks.proofs.SharedTypes.{function_seen}
use Rattle.wasm_validator_type_checks.proofs.composite_types.is_function.Goals as goal

pub returns : goal.returns
returns g c =
    function_seen c.args.types.now.groups c.args.id.index c.group_of-group.result.index c.index.result.now (c.group_of-group.ensures.listed c.index.result.now c.index.ensures) c.is_function_type.result c.is_function_type.ensures
