use Rattle.std.proofs.Common.{◌∙◌, ap, codes}
use Rattle.serde_json.specs.Data.{string, put}
use Rattle.serde_json.specs.View.{members_view}
use Rattle.wasm_check_reports.proofs.VerdictObjects.{says_written}
use Rattle.wasm_check_reports.proofs.json.write_judged.Goals as goal

pub returns : goal.returns
returns c =
    says_written c.write_line.result c.args.name.now c.args.word.now (members_view c.args.members.entries) (members_view c.put_text-2.new.members.entries) _ _
    (c.in_ok-put_text-2.ensures ∙ ap (put (codes "verdict") (string c.args.word.now)) c.in_ok-put_text.ensures) c.write_line.ensures.line
