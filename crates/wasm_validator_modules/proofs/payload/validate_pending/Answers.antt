use Rattle.wasm_validator_modules.proofs.payload.validate_pending.Goals as goal

pub returns-clause-decides : goal.returns-clause-decides
returns-clause-decides g c = c.validate_body.ensures.decides
