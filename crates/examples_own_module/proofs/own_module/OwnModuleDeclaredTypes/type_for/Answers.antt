use Rattle.std.proofs.Common.{sym, ap, ◌∙◌, map}
use Rattle.wasm_spec_rules.specs.Worlds.{declared_in}
use Rattle.wasm_readers_types.specs.SeenTypes.{sub_of}
use Rattle.wasm_validator_resources.specs.Answers.{same_index}
use Rattle.examples_own_module.specs.OwnContexts.{under_ids}
use Rattle.examples_own_module.proofs.Types.{type_read, no_id_declares}
use Rattle.examples_own_module.proofs.own_module.OwnModuleDeclaredTypes.type_for.Goals as goal

pub returns-in-Id : goal.returns-in-Id
returns-in-Id g c =
    type_read c.args.self.now.parts.types.now c.in-Id.id c.index.result c.get.result c.index.ensures c.get.ensures.lookup.0 c.get.ensures.lookup.1
    ∙ ap (declared_in same_index (under_ids 0 (map sub_of c.args.self.now.parts.types.now))) (sym c.in-Id.is)

pub returns-in-Module : goal.returns-in-Module
returns-in-Module g c = no_id_declares c.args.index c.in-Module.is (map sub_of c.args.self.now.parts.types.now)
