use Rattle.std.proofs.Common.{take}
use Rattle.std.specs.List.{All}
use Rattle.wasm_validate_files.specs.Answers.{LacksMemory}
use Rattle.wasm_validate_files.proofs.files.lacks_memory.Given as goal

abbrev pub invariant-answers : goal.invariant-answers
invariant-answers g l = All (λ r. LacksMemory r → ⊥) (take l.answer-index l.answers)
