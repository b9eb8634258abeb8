use Rattle.std.proofs.Common.{ℕ, ◌≡◌, slice_get, Option, Some, subst, sym, ◌∙◌, arith}
use Rattle.ruthvelka_c.specs.declared.queries.Query.{Query}
use Rattle.ruthvelka_c.specs.Queries.{AnswersMaybe}
use Rattle.ruthvelka_c.proofs.ItemReports.{one_more_told}
use Rattle.ruthvelka_c.proofs.queries.answer_queries.Goals as goal

pub queries-preserved : goal.queries-preserved
queries-preserved c =
    let before : Some c.item_at-asked.result ≡ slice_get c.args.queries.now c.queries.k =
    sym c.item_at-asked.ensures ∙ c.queries.invariant.others c.queries.k (omega arith) in
    one_more_told (λ (k : ℕ) (q : Query). AnswersMaybe c.args.answers.now (slice_get c.args.queries.now k) q) c.args.queries.now c.queries.queries c.queries.k c.answer_query-answered.result (omega arith)
    (subst (λ (o : Option Query). AnswersMaybe c.args.answers.now o c.answer_query-answered.result) before c.answer_query-answered.ensures) c.queries.invariant
