use Rattle.wasm_operators_proposals.proofs.WasmOperatorsPlain.WasmSpec.LawSet.{goes_on}
use Rattle.wasm_operators.specs.Instructions.{instruction_at}
use Rattle.wasm_operators.proofs.Fronts.{instruction-reads}
use Rattle.wasm_operators.proofs.ExpressionFronts.{expression_is_front, expression_goes_on}
use Rattle.wasm_operators.proofs.laws.reading_goes_on.Goals as goal

pub returns-clause-instructions : goal.returns-clause-instructions
returns-clause-instructions g c = λ to. goes_on (instruction_at to) (λ more. instruction-reads {more = more} to)

pub returns-clause-expressions : goal.returns-clause-expressions
returns-clause-expressions g c = λ to. expression_goes_on to

pub returns-clause-fronts : goal.returns-clause-fronts
returns-clause-fronts g c = λ to. expression_is_front to
