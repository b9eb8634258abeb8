use Rattle.wasm_laws_core.proofs.HeldTypes.{all_held}
use Rattle.wasm_laws_core.proofs.shown_types_are_held.Goals as goal

pub returns : goal.returns
returns c = λ F types ids parts n same below valid. all_held n ids below F types same parts valid
