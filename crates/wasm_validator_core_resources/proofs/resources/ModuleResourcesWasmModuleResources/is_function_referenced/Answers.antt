use Rattle.wasm_validator_core_resources.proofs.ReferencedFunctions.{flag_read, no_flag_read, each_counts}
use Rattle.wasm_validator_core_resources.proofs.resources.ModuleResourcesWasmModuleResources.is_function_referenced.Goals as goal

pub returns-in-Some-get : goal.returns-in-Some-get
returns-in-Some-get g c = flag_read c.self.inside c.args.self.now c.self.view_is c.args.function_index c.in-Some.flags c.in-Some-get.flag.now c.in-Some.is c.in-Some-get.ensures.lookup.0 c.in-Some-get.ensures.lookup.1

pub returns-in-None-get : goal.returns-in-None-get
returns-in-None-get g c = no_flag_read c.self.inside c.args.self.now c.self.view_is c.args.function_index c.in-Some.flags c.in-Some.is c.in-None-get.ensures.lookup.0

pub returns-in-None : goal.returns-in-None
returns-in-None g c = each_counts c.self.inside c.args.self.now c.self.view_is c.args.function_index c.has_function.result c.in-None.is c.has_function.ensures
