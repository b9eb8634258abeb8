use Rattle.wasm_laws_modules.proofs.Bodies.{bodies_are_over_numbers}
use Rattle.wasm_laws_modules.proofs.bodies_are_over_numbers.Goals as goal

pub returns : goal.returns
returns c = bodies_are_over_numbers
