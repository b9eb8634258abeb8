use Rattle.std.proofs.Common.{length}
use Rattle.wasm_validator_type_list.specs.ListViews.{types_in}
use Rattle.wasm_validator_types.proofs.FunctionsAndTags.{found_below}
use Rattle.wasm_validator_types.proofs.shown.TypesRef.entity_type_from_export.Goals as goal

pub returns-clause-held : goal.returns-clause-held
returns-clause-held g c = λ known. found_below c.args.self.now.spaces.now.types (length (types_in c.args.self.now.list.now)) c.named_entity.result c.named_entity.ensures.among known
