use Rattle.wasm_typing_control.proofs.ReturnLists.{returned_found, returned_nowhere}
use Rattle.wasm_typing_control.proofs.results.returns.Goals as goal

pub returns-in-Some : goal.returns-in-Some
returns-in-Some g c =
    returned_found _ _ _ _ _ c.in-Some.ensures c.match_types.ensures

pub returns-in-None : goal.returns-in-None
returns-in-None g c =
    returned_nowhere _ _ _ c.in-None.ensures
