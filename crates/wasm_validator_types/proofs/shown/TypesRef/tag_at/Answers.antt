use Rattle.std.proofs.Common.{length}
use Rattle.wasm_validator_type_list.specs.ListViews.{types_in}
use Rattle.wasm_validator_types.proofs.shown.TypesRef.tag_at.Goals as goal

pub returns-clause-held : goal.returns-clause-held
returns-clause-held g c = λ known. c.tag_type_id.ensures.below (length (types_in c.args.self.now.list.now)) known
