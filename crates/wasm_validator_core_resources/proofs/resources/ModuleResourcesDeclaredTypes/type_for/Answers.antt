use Rattle.wasm_validator_core_resources.proofs.ContextTypes.{none_declared}
use Rattle.wasm_validator_core_resources.proofs.resources.ModuleResourcesDeclaredTypes.type_for.Goals as goal

pub returns-in-Module : goal.returns-in-Module
returns-in-Module g c = none_declared c.self.inside c.args.self.now c.self.view_is c.self.invariant c.args.index c.in-Module.is
