use Rattle.std.proofs.Common.{sym}
use Rattle.wasm_validator_type_list.proofs.IdDeclarations.{supertype_read}
use Rattle.wasm_validator_type_checks.proofs.ListedTypes.{supertype_in}
use Rattle.wasm_validator_type_checks.proofs.ids.supertype.Goals as goal

pub returns-clause-leads : goal.returns-clause-leads
returns-clause-leads g c = sym (supertype_read c.args.types.now.groups c.args.id.index c.supertype_of.result c.supertype_of.ensures)

pub returns-clause-there : goal.returns-clause-there
returns-clause-there g c = supertype_in c.args.types.now c.args.id.index c.supertype_of.result c.recall_promises.ensures.listable c.requires c.supertype_of.ensures
