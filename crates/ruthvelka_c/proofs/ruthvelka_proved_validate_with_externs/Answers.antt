use Rattle.std.proofs.Common.{sym, ◌∙◌}
use Rattle.std.specs.declared.result.Result.TheVariants.{Err}
use Rattle.wasm_validator_handles.specs.WasmValidator.WasmValidatorCore.declared.error.Error.TheVariants.{OutOfMemory}
use Rattle.ruthvelka_c.specs.Reports.{flags}
use Rattle.ruthvelka_c.proofs.AnswerExterns.{gives, no_text, stays}
use Rattle.ruthvelka_c.proofs.Verdicts.{valid, refused, known, place}
use Rattle.ruthvelka_c.proofs.ruthvelka_proved_validate_with_externs.Goals as goal

pub returns-in-Ok-clause-told : goal.returns-in-Ok-clause-told
returns-in-Ok-clause-told c = record {
  answer = c.answer_alone-answer.result;
  decided = c.answer_alone-answer.ensures.decided;
  tells = c.report_with_names.ensures.tells;
  externs = gives c.answer_alone-answer.result c.in-Ok.externs c.report_with_names.result _ _ _ _ _ _ c.in-Ok.ensures c.write_all-names_length.ensures.imports
      c.write_all-names_length.ensures.exports c.write_all-names_length.ensures.names (c.report_with_names.ensures.names ∙ c.write_all-names_length.ensures.length);
}

pub returns-in-Ok-clause-known : goal.returns-in-Ok-clause-known
returns-in-Ok-clause-known c = known c.answer_alone-answer.result c.report_with_names.result c.report_with_names.ensures.tells

pub returns-in-Ok-clause-valid : goal.returns-in-Ok-clause-valid
returns-in-Ok-clause-valid c =
    valid c.answer_alone-answer.result c.args.bytes.now (flags c.args.features) c.report_with_names.result c.answer_alone-answer.ensures.decided c.report_with_names.ensures.tells

pub returns-in-Ok-clause-refused : goal.returns-in-Ok-clause-refused
returns-in-Ok-clause-refused c =
    refused c.answer_alone-answer.result c.args.bytes.now (flags c.args.features) c.report_with_names.result c.answer_alone-answer.ensures.decided c.report_with_names.ensures.tells

pub returns-in-Ok-clause-message : goal.returns-in-Ok-clause-message
returns-in-Ok-clause-message c = rw c.report_with_names.ensures.message c.write_message-message_length.ensures

pub returns-clause-told : goal.returns-clause-told
returns-clause-told c = record {
  answer = Err OutOfMemory;
  decided = tt;
  tells = c.report_no_memory.ensures.tells;
  externs = stays c.args.imports.now c.args.exports.now c.args.names.now;
}

pub returns-clause-verdict : goal.returns-clause-verdict
returns-clause-verdict c = sym c.report_no_memory.ensures.tells.verdict

pub returns-clause-message : goal.returns-clause-message
returns-clause-message c = no_text c.report_no_memory.result.message_length c.args.message.now c.report_no_memory.ensures.message

pub returns-in-Ok-clause-place : goal.returns-in-Ok-clause-place
returns-in-Ok-clause-place c = place c.answer_alone-answer.result c.args.bytes.now c.report_with_names.result c.answer_alone-answer.ensures.place c.report_with_names.ensures.tells
