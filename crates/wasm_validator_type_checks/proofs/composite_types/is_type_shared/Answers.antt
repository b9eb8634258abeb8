use Rattle.std.proofs.Common.{sym}
use Rattle.wasm_validator_type_list.proofs.TypeMatches.{shared_seen}
use Rattle.wasm_validator_type_checks.proofs.composite_types.is_type_shared.Goals as goal

pub returns : goal.returns
returns g c = sym (shared_seen c.args.types.now c.args.id.index c.index.result.now c.requires c.index.ensures)
