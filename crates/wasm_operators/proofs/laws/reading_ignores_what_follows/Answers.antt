use Rattle.wasm_operators_proposals.proofs.WasmOperatorsPlain.WasmSpec.LawSet.{ignores_what_follows}
use Rattle.wasm_operators.specs.Instructions.{instruction_at}
use Rattle.wasm_operators.proofs.Fronts.{instruction-reads}
use Rattle.wasm_operators.proofs.ExpressionFronts.{expression_ignores_what_follows}
use Rattle.wasm_operators.proofs.laws.reading_ignores_what_follows.Goals as goal

pub returns-clause-instructions : goal.returns-clause-instructions
returns-clause-instructions g c = λ to. ignores_what_follows (instruction_at to) (λ more. instruction-reads {more = more} to)

pub returns-clause-expressions : goal.returns-clause-expressions
returns-clause-expressions g c = λ to. expression_ignores_what_follows to
