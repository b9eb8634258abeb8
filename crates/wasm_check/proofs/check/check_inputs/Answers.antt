use Rattle.std.proofs.Common.{◌≤◌, ◌∙◌, ap, length, subst, arith}
use Rattle.std.proofs.lemmas.List.{length-map}
use Rattle.wasm_check_reports.specs.WasmValidateFiles.Files.{bytes_held}
use Rattle.wasm_check_reports.specs.WasmValidateFiles.Answers.{AreAnswers}
use Rattle.wasm_check_reports.specs.Summaries.{with_answers}
use Rattle.wasm_check.specs.PrintedReports.{ArePrinted}
use Rattle.wasm_check.specs.Statuses.{IsWorst}
use Rattle.wasm_check.proofs.WorstStatuses.{status_tells}
use Rattle.wasm_check.proofs.check.check_inputs.Goals as goal

pub returns-clause-told : goal.returns-clause-told
returns-clause-told g c =
    let are : AreAnswers c.args.settings.now.features c.args.files.now c.in_ok-answers.answers.items = c.in_ok-answers.ensures in
    let worst : IsWorst c.in_ok-answers.answers.items (length c.args.files.now) c.worst_status-status.result =
    subst (λ xs. IsWorst xs (length c.args.files.now) c.worst_status-status.result) c.as_slice-3.ensures.value c.worst_status-status.ensures.worst in
    let most = are.at_most in
    let all = length-map c.args.files.now bytes_held in
    let short : length c.in_ok-answers.answers.items ≤ length c.args.files.now = omega (arith, most, all) in
    status_tells c.args.settings.now.features c.args.files.now c.in_ok-answers.answers.items c.worst_status-status.result c.requires.read are short c.worst_status-status.ensures.known worst

pub returns-clause-counted : goal.returns-clause-counted
returns-clause-counted g c = record {
  answers = c.in_ok-answers.answers.items;
  right = c.in_ok-answers.ensures;
  counted = c.count_answers.ensures ∙ ap (λ xs. with_answers c.args.summary.now xs (length c.args.files.now)) c.as_slice-2.ensures.value;
}

pub returns-clause-printed : goal.returns-clause-printed
returns-clause-printed g c = record {
  answers = c.in_ok-answers.answers.items;
  right = c.in_ok-answers.ensures;
  printed =
      subst (λ xs. ArePrinted c.args.settings.now xs c.args.files.now (g.W.Write.contents c.args.out.now) (g.W.Write.contents c.print_wanted.new.out))
      c.as_slice.ensures.value c.in_ok-print_wanted.ensures.printed;
}
