use Rattle.std.proofs.Common.{sym, subst, ◌∙◌}
use Rattle.std.specs.Prelude.{Any}
use Rattle.std.proofs.lemmas.Bool.{false≢true}
use Rattle.wasm_validate_files.specs.Answers.{LacksMemory}
use Rattle.wasm_validate_files.proofs.files.answer_with_memory.Goals as goal

pub returns : goal.returns
returns g c = record {
  headline = c.in_ok-answers.ensures;
  with_memory = λ any. false≢true (sym c.if-lacks_memory.false ∙ c.lacks_memory.ensures.1 (subst (Any LacksMemory) (sym c.as_slice.ensures.value) any));
}
