use Rattle.std.proofs.Common.{sym, ◌∙◌}
use Rattle.ruthvelka_c.specs.Reports.{flags}
use Rattle.ruthvelka_c.proofs.Verdicts.{not_done, not_wrong, refused_status}
use Rattle.ruthvelka_c.proofs.side_tables.ruthvelka_proved_side_table.Goals as goal

pub returns-in-Ok-clause-told : goal.returns-in-Ok-clause-told
returns-in-Ok-clause-told c = record { answer = c.answer_alone-answer.result; decided = c.answer_alone-answer.ensures.decided; tells = c.report_of.ensures.tells }

pub returns-in-Ok-clause-valid : goal.returns-in-Ok-clause-valid
returns-in-Ok-clause-valid c = λ e. let d = rw c.in-Ok.is at c.answer_alone-answer.ensures.decided in d.1.module_valid

pub returns-in-Ok-clause-wrong : goal.returns-in-Ok-clause-wrong
returns-in-Ok-clause-wrong c = λ e. let d = rw c.in-Ok.is at c.answer_alone-answer.ensures.decided in d.1.module_valid

pub returns-in-Ok-clause-message : goal.returns-in-Ok-clause-message
returns-in-Ok-clause-message c = rw c.report_of.ensures.message c.write_message-message_length.ensures

pub returns-clause-told : goal.returns-clause-told
returns-clause-told c = record { answer = c.answer_alone-answer.result; decided = c.answer_alone-answer.ensures.decided; tells = c.report_of.ensures.tells }

pub returns-clause-valid : goal.returns-clause-valid
returns-clause-valid c = λ e. absurd (not_done c.in-Err.error (sym c.error_status.ensures ∙ e))

pub returns-clause-table : goal.returns-clause-table
returns-clause-table c = λ e. absurd (not_done c.in-Err.error (sym c.error_status.ensures ∙ e))

pub returns-clause-refused : goal.returns-clause-refused
returns-clause-refused c =
    let d = rw c.in-Err.is at c.answer_alone-answer.ensures.decided in
    λ e. refused_status c.in-Err.error c.args.bytes.now (flags c.args.features) d (sym c.error_status.ensures ∙ e)

pub returns-clause-wrong : goal.returns-clause-wrong
returns-clause-wrong c = λ e. absurd (not_wrong c.in-Err.error (sym c.error_status.ensures ∙ e))

pub returns-clause-message : goal.returns-clause-message
returns-clause-message c = rw c.report_of.ensures.message c.write_message-message_length.ensures
