use Rattle.std.proofs.Common.{slice_get}
use Rattle.ruthvelka_c.specs.Queries.{AnswersMaybe}
use Rattle.ruthvelka_c.proofs.ItemReports.{ToldUpto}
use Rattle.ruthvelka_c.proofs.queries.answer_queries.Given as goal

abbrev pub invariant-queries : goal.invariant-queries
invariant-queries l = ToldUpto (λ k q. AnswersMaybe l.answers (slice_get l.initial.queries k) q) l.k l.initial.queries l.queries
