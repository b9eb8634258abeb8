use Rattle.std.proofs.Common.{List, length}
use Rattle.wasm_validator_modules.specs.declared.payload.Bodies.{Bodies}
use Rattle.wasm_validator_states.specs.States.{BodyToValidate}
use Rattle.wasm_validator_modules.specs.PayloadAnswers.{bodies_seen}
use Rattle.wasm_validator_states.proofs.UsedLaws.{used_laws}
use Rattle.wasm_validator_states.proofs.WholeModules.{decides_refusal, decides_whole, decides_body, stops, ends}
use Rattle.wasm_validator_modules.proofs.payload.answer_all.Goals as goal

pub returns-in-Err-clause-decided : goal.returns-in-Err-clause-decided
returns-in-Err-clause-decided g c =
    let gives : Bodies g.row.A.Denot → List BodyToValidate = λ b. bodies_seen b in
    decides_refusal gives used_laws c.args.bytes.now c.args.validator.now c.run.new.self c.in-Err.error c.has_failed-has_failed.ensures.valid c.types_stand_apart.ensures c.in-Err.ensures.validates

pub returns-in-Ok-validate-clause-decided : goal.returns-in-Ok-validate-clause-decided
returns-in-Ok-validate-clause-decided g c =
    decides_whole used_laws c.args.bytes.now c.args.validator.now c.run.new.self c.in-Ok.ended.0 (bodies_seen c.in-Ok.ended.1)
    c.types_stand_apart.ensures c.in-Ok.ensures.validates c.in-Ok-validate.ensures.decided

pub returns-in-Err-validate-clause-decided : goal.returns-in-Err-validate-clause-decided
returns-in-Err-validate-clause-decided g c =
    decides_body used_laws c.args.bytes.now c.args.validator.now c.run.new.self c.in-Ok.ended.0 (bodies_seen c.in-Ok.ended.1) c.in-Err-validate.error
    c.has_failed-has_failed.ensures.valid c.types_stand_apart.ensures c.in-Ok.ensures.validates c.in-Err-validate.ensures.decided

pub returns-in-Err-validate-clause-place : goal.returns-in-Err-validate-clause-place
returns-in-Err-validate-clause-place g c = c.in-Err-validate.ensures.place (length c.args.bytes.now) c.in-Ok.ensures.within

pub returns-in-Err-clause-stopped : goal.returns-in-Err-clause-stopped
returns-in-Err-clause-stopped g c =
    let gives : Bodies g.row.A.Denot → List BodyToValidate = λ b. bodies_seen b in
    λ e. stops gives used_laws c.args.bytes.now c.args.validator.now c.run.new.self c.in-Err.error c.has_failed-has_failed.ensures.valid c.types_stand_apart.ensures c.in-Err.ensures.validates

pub returns-in-Ok-validate-clause-ended : goal.returns-in-Ok-validate-clause-ended
returns-in-Ok-validate-clause-ended g c =
    λ e. ends used_laws c.args.bytes.now c.args.validator.now c.run.new.self c.in-Ok.ended.0 (bodies_seen c.in-Ok.ended.1) c.types_stand_apart.ensures c.in-Ok.ensures.validates

pub returns-in-Err-validate-clause-ended : goal.returns-in-Err-validate-clause-ended
returns-in-Err-validate-clause-ended g c =
    λ e. ends used_laws c.args.bytes.now c.args.validator.now c.run.new.self c.in-Ok.ended.0 (bodies_seen c.in-Ok.ended.1) c.types_stand_apart.ensures c.in-Ok.ensures.validates
