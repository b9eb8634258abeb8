use Rattle.std.proofs.Common.{sym}
use Rattle.wasm_validator_type_list.proofs.TypeMatches.{shared_seen}
use Rattle.wasm_validator_type_list.proofs.type_list.TypeList.type_is_shared.Goals as goal

pub returns : goal.returns
returns g c = sym (shared_seen c.args.self.now c.args.id.index c.index.result.now c.requires c.index.ensures)
