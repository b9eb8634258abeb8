use Rattle.wasm_laws_modules.proofs.MatchingOverIds.{references_match_over_ids}
use Rattle.wasm_laws_modules.proofs.references_match_over_ids.Goals as goal

pub returns : goal.returns
returns c = references_match_over_ids
