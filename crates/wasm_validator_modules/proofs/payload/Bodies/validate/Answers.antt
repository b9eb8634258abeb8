use Rattle.std.proofs.Common.{sym, subst}
use Rattle.wasm_validator_states.specs.Payloads.{DecidesBodies}
use Rattle.wasm_validator_modules.specs.PayloadAnswers.{pending_in}
use Rattle.wasm_validator_modules.proofs.payload.Bodies.validate.Goals as goal

pub returns-in-Some-clause-decided : goal.returns-in-Some-clause-decided
returns-in-Some-clause-decided g c =
    let bodies = c.args.self in
    subst (λ kept. DecidesBodies (pending_in bodies.features kept bodies.pending.items) c.validate_each.result) (sym c.in-Some.is) c.validate_each.ensures.decided
