use Rattle.std.proofs.Common.{arith}
use Rattle.wasm_spec.specs.Framing.{CodeEntry}
use Rattle.wasm_parser.specs.Places.{reader_end}
use Rattle.wasm_parser.specs.PayloadViews.{body_of, body_reader}
use Rattle.wasm_validator_modules.specs.declared.payload.ValidPayload.{ValidPayload}
use Rattle.wasm_validator_modules.specs.declared.payload.ValidPayload.TheVariants.{Func}
use Rattle.wasm_validator_tables.specs.ModuleTables.{GivesLarge, HandsOutLarge}
use Rattle.wasm_validator_tables.proofs.TablesMade.{large_so}
use Rattle.wasm_validator_tables.proofs.module.gather_body.Goals as goal

pub returns-in-Ok-make-clause-taken : goal.returns-in-Ok-make-clause-taken
returns-in-Ok-make-clause-taken g c = record {
  valid = Func c.in-Ok.function c.args.body.now;
  moves = c.in-Ok.ensures.moves;
  shown = tt;
  given = c.in-Ok.ensures.given;
  within = omega arith;
  keeps = c.in-Ok-make.ensures.made;
}

pub returns-in-Err-make-clause-large : goal.returns-in-Err-make-clause-large
returns-in-Err-make-clause-large g c =
    let valid : ValidPayload g.row.A.Denot = Func c.in-Ok.function c.args.body.now in
    large_so (GivesLarge valid) (HandsOutLarge g.row.A.Denot (CodeEntry (body_of c.args.body.now)) (reader_end (body_reader c.args.body.now)) c.args.validator.now) c.in-Err-make.why
    (λ l. record { valid = valid; given = c.in-Ok.ensures.given; within = omega arith; large = l }) c.in-Err-make.ensures.large
