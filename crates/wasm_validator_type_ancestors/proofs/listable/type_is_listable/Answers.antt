use Rattle.wasm_validator_type_ancestors.proofs.ListableGroups.{listable_alone}
use Rattle.wasm_validator_type_ancestors.proofs.listable.type_is_listable.Goals as goal

pub returns : goal.returns
returns g c = listable_alone c.args.types c.args.ty.now c.is_listable_at.result c.is_listable_at.ensures
