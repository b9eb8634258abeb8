use Rattle.wasm_validator_core_resources.proofs.ById.{supers_reach, describes_reaches, descriptor_reaches, composite_reaches}
use Rattle.wasm_validator_core_resources.proofs.by_ids.sub_type.Goals as goal

pub optional-descriptor_idx-requires : goal.optional-descriptor_idx-requires
optional-descriptor_idx-requires g c = descriptor_reaches c.args.start c.args.ty.now c.requires

pub optional-describes_idx-requires : goal.optional-describes_idx-requires
optional-describes_idx-requires g c = describes_reaches c.args.start c.args.ty.now c.requires

pub supertypes-requires : goal.supertypes-requires
supertypes-requires g c = supers_reach c.args.start c.args.ty.now c.requires c.as_slice.result.now c.as_slice.ensures

pub composite-requires : goal.composite-requires
composite-requires g c = composite_reaches c.args.start c.args.ty.now c.requires
