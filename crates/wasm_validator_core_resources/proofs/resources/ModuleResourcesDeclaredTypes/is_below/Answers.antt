use Rattle.std.proofs.Common.{◌∙◌}
use Rattle.wasm_validator_core_resources.proofs.ContextTypes.{not_below, ids_below, not_above}
use Rattle.wasm_validator_core_resources.proofs.resources.ModuleResourcesDeclaredTypes.is_below.Goals as goal

pub returns-in-Module : goal.returns-in-Module
returns-in-Module g c = c.same_index.ensures ∙ not_below c.self.inside c.args.self.now c.self.view_is c.self.invariant c.args.a c.args.b c.in-Module.is

pub returns-in-Id-b : goal.returns-in-Id-b
returns-in-Id-b g c = ids_below c.self.inside c.args.self.now c.self.view_is c.self.invariant c.args.a c.args.b c.in-Id.id c.in-Id-b.other c.id_is_below.result c.in-Id.is c.in-Id-b.is c.id_is_below.ensures.world

pub returns-in-Module-b : goal.returns-in-Module-b
returns-in-Module-b g c = not_above c.self.inside c.args.self.now c.self.view_is c.self.invariant c.args.a c.args.b c.in-Id.id c.in-Id.is c.in-Module-b.is
