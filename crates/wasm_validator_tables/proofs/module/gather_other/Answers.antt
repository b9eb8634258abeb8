use Rattle.wasm_parser.specs.Places.{ends_at}
use Rattle.wasm_parser.specs.PayloadViews.{seen}
use Rattle.wasm_validator_tables.specs.ModuleTables.{GivesLarge, HandsOutLarge}
use Rattle.wasm_validator_tables.proofs.TablesMade.{large_so}
use Rattle.wasm_validator_tables.proofs.module.gather_other.Goals as goal

pub returns-in-Ok-take-clause-taken : goal.returns-in-Ok-take-clause-taken
returns-in-Ok-take-clause-taken g c = record {
  valid = c.in-Ok.valid;
  moves = c.in-Ok.ensures.moves;
  shown = c.in-Ok.ensures.shown;
  given = c.in-Ok.ensures.given;
  within = c.in-Ok.ensures.within;
  keeps = c.in-Ok-take.ensures.kept;
}

pub returns-in-Err-take-clause-large : goal.returns-in-Err-take-clause-large
returns-in-Err-take-clause-large g c =
    large_so (GivesLarge c.in-Ok.valid) (HandsOutLarge g.row.A.Denot (seen c.args.payload.now) (ends_at c.args.payload.now) c.args.validator.now) c.in-Err-take.why
    (λ l. record { valid = c.in-Ok.valid; given = c.in-Ok.ensures.given; within = c.in-Ok.ensures.within; large = l }) c.in-Err-take.ensures.large
