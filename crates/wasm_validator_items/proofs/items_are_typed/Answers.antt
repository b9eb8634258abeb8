use Rattle.wasm_validator_items.proofs.Items.{expressions, globals, segments}
use Rattle.wasm_validator_items.proofs.items_are_typed.Goals as goal

-- src/lib.rt:13:1
pub returns-clause-expressions : goal.returns-clause-expressions
returns-clause-expressions c = λ C F imported. expressions C F imported

-- src/lib.rt:13:1
pub returns-clause-globals : goal.returns-clause-globals
returns-clause-globals c = λ C F imported. globals C F imported

-- src/lib.rt:13:1
pub returns-clause-data : goal.returns-clause-data
returns-clause-data c = λ C F imported. segments C F imported
