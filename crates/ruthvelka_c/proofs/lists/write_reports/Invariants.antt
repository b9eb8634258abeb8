use Rattle.ruthvelka_c.specs.Lists.{answered_on}
use Rattle.ruthvelka_c.proofs.ItemReports.{ToldUpto}
use Rattle.ruthvelka_c.proofs.lists.write_reports.Given as goal

abbrev pub invariant-places : goal.invariant-places
invariant-places l = ToldUpto (answered_on l.answers) l.place l.initial.to l.to
