use Rattle.wasm_typing_control.proofs.LabelTypes.{label_found}
use Rattle.wasm_typing_control.proofs.labels.label_types.Goals as goal

pub returns-in-Some : goal.returns-in-Some
returns-in-Some g c =
    label_found _ _ _ c.in-Some.frame _ c.in-Some.ensures c.branch_types.ensures
