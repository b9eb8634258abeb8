use Rattle.wasm_validator_type_checks.proofs.SharedTypes.{finality_seen}
use Rattle.wasm_validator_type_checks.proofs.descriptors.have_same_finality.Goals as goal

pub returns : goal.returns
returns g c =
    finality_seen c.args.types.now.groups c.args.id.index c.group_of-group.result.index c.index-2.result.now (c.group_of-group.ensures.listed c.index-2.result.now c.index-2.ensures)
    c.args.other.index c.group_of-other_group.result.index c.index.result.now (c.group_of-other_group.ensures.listed c.index.result.now c.index.ensures)
