use Rattle.std.proofs.Common.{◌∙◌}
use Rattle.examples_own_module.proofs.Types.{any_among}
use Rattle.examples_own_module.proofs.own_module.OwnModuleWasmModuleResources.is_function_referenced.Goals as goal

pub returns : goal.returns
returns g c = c.contains.ensures.value ∙ any_among c.args.function_index c.args.self.now.parts.references.now
