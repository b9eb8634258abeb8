use Rattle.wasm_laws_core.proofs.NumbersAndIds.{ids_rename_numbers}
use Rattle.wasm_laws_core.proofs.ids_rename_numbers.Goals as goal

pub returns : goal.returns
returns g c = ids_rename_numbers
