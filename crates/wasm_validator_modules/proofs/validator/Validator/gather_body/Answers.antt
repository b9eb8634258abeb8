use Rattle.std.proofs.Common.{refl, inl, inr, arith}
use Rattle.wasm_validator_states.specs.WasmParser.Places.{reader_end}
use Rattle.wasm_validator_states.specs.WasmParser.PayloadViews.{body_reader}
use Rattle.wasm_validator_modules.specs.declared.payload.ValidPayload.TheVariants.{Func}
use Rattle.wasm_validator_modules.proofs.BodyPayloads.{body_gathered, body_refused}
use Rattle.wasm_validator_modules.proofs.validator.Validator.gather_body.Goals as goal

pub take-requires : goal.take-requires
take-requires g c =
    let goes = c.requires (Func c.in-Ok.function c.args.body.now) c.in-Ok.ensures.given in
    record { features = goes.0; kept = goes.1 }

pub returns-in-Ok-take-clause-taken : goal.returns-in-Ok-take-clause-taken
returns-in-Ok-take-clause-taken g c =
    let kept = c.in-Ok-take.ensures in
    body_gathered c.args.self.now c.code_section_entry.new.self c.args.body.now c.in-Ok.function (reader_end (body_reader c.args.body.now)) c.args.gathered.now (record c.args.gathered.now { bodies = c.take.new.self })
    c.in-Ok.ensures.moves c.in-Ok.ensures.given (omega arith) refl kept.seen kept.features kept.resources (λ end all within. kept.within end all within)

pub returns-in-Err-take-clause-refused : goal.returns-in-Err-take-clause-refused
returns-in-Err-take-clause-refused g c =
    inr (refl, record { valid = Func c.in-Ok.function c.args.body.now; moves = c.in-Ok.ensures.moves; shown = tt; given = c.in-Ok.ensures.given; keeps = inl tt })

pub returns-in-Err-clause-refused : goal.returns-in-Err-clause-refused
returns-in-Err-clause-refused g c = body_refused c.args.self.now c.code_section_entry.new.self c.args.body.now c.in-Err.error c.in-Err.ensures.moves
