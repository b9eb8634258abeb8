use Rattle.wasm_check.proofs.PrintedReports.{next_printed, seen_at}
use Rattle.wasm_check.proofs.check.print_reports.Goals as goal

pub files-preserved : goal.files-preserved
files-preserved g c =
    let at = seen_at c.args.answers.now c.files.place c.get.result c.get.ensures.lookup in
    let printed = c.in_ok-print_report.ensures in
    next_printed c.args.settings.now c.args.answers.now c.args.files.now c.files.place c.index-files-place.result _ printed.0 _ _ _
    c.files-test.true c.index-files-place.is at c.files.invariant printed.1 printed.2
