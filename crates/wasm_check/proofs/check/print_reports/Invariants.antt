use Rattle.std.proofs.Common.{take}
use Rattle.wasm_check.specs.PrintedReports.{ArePrinted}
use Rattle.wasm_check.proofs.check.print_reports.Given as goal

abbrev pub invariant-files : goal.invariant-files
invariant-files g l = ArePrinted l.settings l.answers (take l.place l.files) (g.W.Write.contents l.initial.out) (g.W.Write.contents l.out)
