use Rattle.wasm_validator_states.proofs.DistinctTypes.{stands_apart}
use Rattle.wasm_validator_modules.proofs.validator.Validator.types_stand_apart.Goals as goal

pub returns : goal.returns
returns g c =
    stands_apart c.self.inside.id c.self.inside.features c.self.inside.types c.self.inside.state c.args.self.now c.self.view_is c.self.invariant.list.mode c.types_are_apart.ensures
