use Rattle.wasm_validator_type_list.proofs.IdsAndTypes.{types_declare_what_ids_declare}
use Rattle.wasm_validator_type_list.proofs.laws.types_declare_what_ids_declare.Goals as goal

pub returns : goal.returns
returns g c = types_declare_what_ids_declare
