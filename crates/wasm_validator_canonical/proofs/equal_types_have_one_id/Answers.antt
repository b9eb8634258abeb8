use Rattle.wasm_validator_canonical.proofs.Sections.{one_id_for_one_type}
use Rattle.wasm_validator_canonical.proofs.equal_types_have_one_id.Goals as goal

pub returns : goal.returns
returns c = one_id_for_one_type
