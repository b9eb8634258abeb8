use Rattle.std.proofs.Common.{◌≡◌, ◌++◌, subst, string_bytes}
use Rattle.std.specs.Prelude.{if◌then◌else◌}
use Rattle.std.specs.Result.{is_ok}
use Rattle.wasm_check_reports.proofs.VerdictObjects.{says_more}
use Rattle.wasm_check_reports.proofs.lines.write_report.Goals.{in-Json+in_ok-write_verdict-in-Json, in-Text+in_ok-write_front-in-Text}
use Rattle.wasm_check_reports.proofs.lines.write_report.Goals as goal

pub returns-clause-json : goal.returns-clause-json
returns-clause-json c = λ json. elim c.match-settings.branch [
  | in-Json+in_ok-write_verdict-in-Json w ↦
      says_more c.push_str.result (string_bytes c.args.file.now.name) _ (string_bytes c.args.text.now) (string_bytes w.write_verdict.new.text) c.as_str-2.result.now (string_bytes c.push_str.new.self)
      w.in_ok-write_verdict-in-Json.ensures
      (subst (λ t. string_bytes c.push_str.new.self ≡ (if is_ok c.push_str.result then string_bytes t ++ c.as_str-2.result.now else string_bytes t)) w.text-is c.push_str.ensures.bytes)
  | in-Text+in_ok-write_front-in-Text w ↦ let text = w.in-Text.is in absurd cc
]
