use Rattle.wasm_validator_type_checks.proofs.SharedTypes.{open_seen}
use Rattle.wasm_validator_type_checks.proofs.subtypes.is_open.Goals as goal

pub returns : goal.returns
returns g c = open_seen c.args.types.now.groups c.args.id.index c.group_of-group.result.index c.index.result.now (c.group_of-group.ensures.listed c.index.result.now c.index.ensures)
