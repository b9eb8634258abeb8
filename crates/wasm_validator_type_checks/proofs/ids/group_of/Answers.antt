use Rattle.wasm_validator_type_checks.proofs.ListedTypes.{is_listed}
use Rattle.wasm_validator_type_checks.proofs.ids.group_of.Goals as goal

pub returns-clause-listed : goal.returns-clause-listed
returns-clause-listed g c = λ ty e. is_listed c.args.types.now c.args.id.index c.rec_group_id_of.result.index ty c.recall_promises.ensures.listable c.rec_group_id_of.ensures c.requires e
