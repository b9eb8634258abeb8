use Rattle.std.proofs.Common.{◌∙◌}
use Rattle.wasm_validator_checks.proofs.Arities.{written_arities}
use Rattle.wasm_validator_checks.proofs.signatures.function_arity.Goals as goal

pub returns : goal.returns
returns g c = c.written_arity.ensures ∙ written_arities c.args.list.now.is_canonical c.args.list.now.groups c.recall_promises.ensures.listable c.args.id.index
