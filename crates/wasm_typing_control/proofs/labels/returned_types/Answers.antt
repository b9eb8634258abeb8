use Rattle.wasm_typing_control.proofs.LabelTypes.{returned_found}
use Rattle.wasm_typing_control.proofs.labels.returned_types.Goals as goal

pub returns-in-Some : goal.returns-in-Some
returns-in-Some g c =
    returned_found _ _ c.in-Some.frame _ c.in-Some.ensures c.block_gives.ensures
