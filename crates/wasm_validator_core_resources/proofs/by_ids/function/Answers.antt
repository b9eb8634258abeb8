use Rattle.wasm_validator_core_resources.proofs.ById.{params_reach, results_reach}
use Rattle.wasm_validator_core_resources.proofs.by_ids.function.Goals as goal

pub values-requires : goal.values-requires
values-requires g c = params_reach c.args.start c.args.ty.now c.params.result.now c.params.ensures c.requires

pub values-requires-2 : goal.values-requires-2
values-requires-2 g c = results_reach c.args.start c.args.ty.now c.results.result.now c.results.ensures c.requires
