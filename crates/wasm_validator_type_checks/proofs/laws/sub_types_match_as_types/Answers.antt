use Rattle.wasm_validator_type_checks.proofs.IdsAndTypes.{sub_types_match_as_types}
use Rattle.wasm_validator_type_checks.proofs.laws.sub_types_match_as_types.Goals as goal

pub returns : goal.returns
returns g c = sub_types_match_as_types
