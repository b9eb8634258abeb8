use Rattle.wasm_validator_type_list.proofs.TypeMatches.{top_seen}
use Rattle.wasm_validator_type_list.proofs.type_list.TypeList.top_of_type.Goals as goal

pub returns : goal.returns
returns g c = top_seen c.args.self.now c.args.id.index c.index.result.now c.kind.result c.top.result c.requires c.index.ensures c.kind.ensures c.top.ensures
