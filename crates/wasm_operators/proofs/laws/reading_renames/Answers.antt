use Rattle.wasm_operators.proofs.Renamings.{instruction-renames}
use Rattle.wasm_operators.proofs.ExpressionRenamings.{expression_is_of_bytes}
use Rattle.wasm_operators.proofs.laws.reading_renames.Goals as goal

pub returns-clause-instructions : goal.returns-clause-instructions
returns-clause-instructions g c = λ f to bytes. (instruction-renames f to bytes).is

pub returns-clause-expressions : goal.returns-clause-expressions
returns-clause-expressions g c = expression_is_of_bytes
