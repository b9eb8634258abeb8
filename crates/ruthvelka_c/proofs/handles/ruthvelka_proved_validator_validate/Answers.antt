use Rattle.ruthvelka_c.proofs.AnswerExterns.{no_text}
use Rattle.ruthvelka_c.proofs.handles.ruthvelka_proved_validator_validate.Goals as goal

pub returns-in-Err-clause-message : goal.returns-in-Err-clause-message
returns-in-Err-clause-message c = no_text c.not_checked.result.message_length c.args.message.now c.not_checked.ensures.message
