use Rattle.std.proofs.Common.{ℕ, sym, ap, ◌∙◌, map}
use Rattle.wasm_spec_rules.specs.Worlds.{is_below}
use Rattle.wasm_readers_types.specs.SeenTypes.{sub_of}
use Rattle.wasm_validator_resources.specs.Answers.{same_index}
use Rattle.examples_own_module.specs.OwnContexts.{under_ids}
use Rattle.examples_own_module.proofs.Types.{length-declares}
use Rattle.examples_own_module.proofs.own_module.OwnModuleDeclaredTypes.is_below.Goals as goal

pub returns : goal.returns
returns g c =
    c.is_below_within.ensures
    ∙ ap (λ (n : ℕ). is_below same_index (under_ids 0 (map sub_of c.args.self.now.parts.types.now)) n c.args.a c.args.b) (sym (length-declares c.args.self.now.parts.types.now))
