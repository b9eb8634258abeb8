use Rattle.wasm_laws_modules.proofs.ConstantsOverNumbers.{constants_are_over_numbers}
use Rattle.wasm_laws_modules.proofs.MatchingOverIds.{references_match_over_ids}
use Rattle.wasm_laws_modules.proofs.AllModuleLists.{all_lists_added}
use Rattle.wasm_laws_modules.proofs.all_lists_are_added.Goals as goal

pub returns : goal.returns
returns c = all_lists_added constants_are_over_numbers references_match_over_ids
