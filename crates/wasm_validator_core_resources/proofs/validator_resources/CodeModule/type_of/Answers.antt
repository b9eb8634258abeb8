use Rattle.wasm_validator_core_resources.proofs.CodeSectionTypes.{type_read}
use Rattle.wasm_validator_core_resources.proofs.validator_resources.CodeModule.type_of.Goals as goal

pub returns : goal.returns
returns g c =
    type_read c.self.inside c.args.self.now c.self.view_is c.self.invariant c.args.id c.index.result c.types.result.now c.get.result c.index.ensures c.types.ensures c.get.ensures.when c.get.ensures.found
