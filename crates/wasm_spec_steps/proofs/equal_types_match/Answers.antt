use Rattle.wasm_spec_steps.proofs.EqualTypesMatch.{equal_types_match_in_contexts}
use Rattle.wasm_spec_steps.proofs.equal_types_match.Goals as goal

pub returns-clause-contexts : goal.returns-clause-contexts
returns-clause-contexts g c = equal_types_match_in_contexts
