use Rattle.wasm_validator_core_resources.proofs.ExactFunctions.{exact_there, told_there, exact_past, told_past}
use Rattle.wasm_validator_core_resources.proofs.resources.ModuleResourcesWasmModuleResources.has_function_exact_type.Goals as goal

pub returns-then-function_index-function_count-clause-exact :
    goal.returns-then-function_index-function_count-clause-exact
returns-then-function_index-function_count-clause-exact g c =
    exact_there c.self.inside c.args.self.now c.self.view_is c.args.function_index c.function_count.result c.is_exact_function.result c.function_count.ensures c.if-function_index-function_count.true c.is_exact_function.ensures

pub returns-then-function_index-function_count-clause-told :
    goal.returns-then-function_index-function_count-clause-told
returns-then-function_index-function_count-clause-told g c =
    told_there c.self.inside c.args.self.now c.self.view_is c.args.function_index c.function_count.result c.function_count.ensures c.if-function_index-function_count.true

pub returns-else-function_index-function_count-clause-exact :
    goal.returns-else-function_index-function_count-clause-exact
returns-else-function_index-function_count-clause-exact g c =
    exact_past c.self.inside c.args.self.now c.self.view_is c.args.function_index c.function_count.result c.function_count.ensures c.if-function_index-function_count.false

pub returns-else-function_index-function_count-clause-told :
    goal.returns-else-function_index-function_count-clause-told
returns-else-function_index-function_count-clause-told g c =
    told_past c.self.inside c.args.self.now c.self.view_is c.args.function_index c.function_count.result c.function_count.ensures c.if-function_index-function_count.false
