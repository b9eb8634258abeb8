use Rattle.std.proofs.Common.{ℕ, ap, ◌∙◌}
use Rattle.ruthvelka_c.specs.Queries.{MayBeGiven, list_behind, types_at}
use Rattle.ruthvelka_c.proofs.QuestionAnswers.{says_same}
use Rattle.ruthvelka_c.proofs.queries.answer_given.Goals as goal

pub returns : goal.returns
returns c =
    says_same MayBeGiven _ _ _ _ _ _ c.say_given.result c.find_export-first.ensures c.find_import-second.ensures
    (c.find_list-list.ensures ∙ ap (λ (k : ℕ). list_behind (types_at c.args.answers.now k)) c.max.ensures) c.say_given.ensures
