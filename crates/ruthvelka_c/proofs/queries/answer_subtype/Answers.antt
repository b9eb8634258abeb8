use Rattle.std.proofs.Common.{ℕ, ap, ◌∙◌}
use Rattle.ruthvelka_c.specs.Queries.{IsBelow, list_behind, types_at}
use Rattle.ruthvelka_c.proofs.QuestionAnswers.{says_same}
use Rattle.ruthvelka_c.proofs.queries.answer_subtype.Goals as goal

pub returns : goal.returns
returns c =
    says_same IsBelow _ _ _ _ _ _ c.say_below.result c.find_type-first.ensures c.find_type-second.ensures
    (c.find_list-list.ensures ∙ ap (λ (k : ℕ). list_behind (types_at c.args.answers.now k)) c.max.ensures) c.say_below.ensures
