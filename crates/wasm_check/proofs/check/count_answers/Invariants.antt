use Rattle.std.proofs.Common.{◌≡◌}
use Rattle.wasm_check_reports.specs.Summaries.{with_answers}
use Rattle.wasm_check.proofs.check.count_answers.Given as goal

abbrev pub invariant-places : goal.invariant-places
invariant-places l = l.summary ≡ with_answers l.initial.summary l.answers l.place
