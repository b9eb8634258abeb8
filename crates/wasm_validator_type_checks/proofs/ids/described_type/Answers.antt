use Rattle.wasm_validator_type_checks.proofs.ListedTypes.{listed_describes}
use Rattle.wasm_validator_type_checks.proofs.ids.described_type.Goals as goal

pub optional_id_at-requires-clause-known : goal.optional_id_at-requires-clause-known
optional_id_at-requires-clause-known g c = listed_describes c.args.types.now.groups c.args.id.index c.group_of-group.result.index c.index.result.now (c.group_of-group.ensures.listed c.index.result.now c.index.ensures)
