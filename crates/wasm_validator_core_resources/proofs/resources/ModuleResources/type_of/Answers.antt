use Rattle.wasm_validator_core_resources.proofs.ContextTypes.{type_read}
use Rattle.wasm_validator_core_resources.proofs.resources.ModuleResources.type_of.Goals as goal

pub returns : goal.returns
returns g c = type_read c.self.inside c.args.self.now c.self.view_is c.self.invariant c.args.id c.index.result c.get.result c.index.ensures c.get.ensures.when c.get.ensures.found
