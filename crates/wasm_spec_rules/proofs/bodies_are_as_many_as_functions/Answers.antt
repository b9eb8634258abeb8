use Rattle.wasm_spec_rules.proofs.Bodies.{bodies_are_as_many_as_functions}
use Rattle.wasm_spec_rules.proofs.bodies_are_as_many_as_functions.Goals as goal

pub returns : goal.returns
returns c = bodies_are_as_many_as_functions
