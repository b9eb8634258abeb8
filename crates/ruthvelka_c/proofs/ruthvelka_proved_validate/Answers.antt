use Rattle.ruthvelka_c.specs.Reports.{flags}
use Rattle.ruthvelka_c.proofs.Verdicts.{valid, refused, known, place}
use Rattle.ruthvelka_c.proofs.ruthvelka_proved_validate.Goals as goal

pub returns-clause-told : goal.returns-clause-told
returns-clause-told c = record { answer = c.answer_alone-answer.result; decided = c.answer_alone-answer.ensures.decided; tells = c.report_of.ensures.tells }

pub returns-clause-known : goal.returns-clause-known
returns-clause-known c = known c.answer_alone-answer.result c.report_of.result c.report_of.ensures.tells

pub returns-clause-valid : goal.returns-clause-valid
returns-clause-valid c = valid c.answer_alone-answer.result c.args.bytes.now (flags c.args.features) c.report_of.result c.answer_alone-answer.ensures.decided c.report_of.ensures.tells

pub returns-clause-refused : goal.returns-clause-refused
returns-clause-refused c = refused c.answer_alone-answer.result c.args.bytes.now (flags c.args.features) c.report_of.result c.answer_alone-answer.ensures.decided c.report_of.ensures.tells

pub returns-clause-message : goal.returns-clause-message
returns-clause-message c = rw c.report_of.ensures.message c.write_message-message_length.ensures

pub returns-clause-place : goal.returns-clause-place
returns-clause-place c = place c.answer_alone-answer.result c.args.bytes.now c.report_of.result c.answer_alone-answer.ensures.place c.report_of.ensures.tells
