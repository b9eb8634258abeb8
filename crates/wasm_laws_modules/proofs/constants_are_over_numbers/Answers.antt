use Rattle.wasm_laws_modules.proofs.ConstantsOverNumbers.{constants_are_over_numbers}
use Rattle.wasm_laws_modules.proofs.constants_are_over_numbers.Goals as goal

pub returns : goal.returns
returns c = constants_are_over_numbers
