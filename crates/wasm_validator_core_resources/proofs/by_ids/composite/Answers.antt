use Rattle.wasm_validator_core_resources.proofs.ById.{fields_reach}
use Rattle.wasm_validator_core_resources.proofs.by_ids.composite.Goals as goal

pub fields-requires : goal.fields-requires
fields-requires g c = fields_reach c.args.start c.args.ty.now c.in-Struct.structure c.as_slice.result.now c.in-Struct.is c.as_slice.ensures c.requires
