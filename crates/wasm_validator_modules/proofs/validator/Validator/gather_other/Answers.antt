use Rattle.std.proofs.Common.{refl, inl, inr}
use Rattle.wasm_validator_modules.proofs.validator.Validator.gather_other.Goals as goal

pub take-requires : goal.take-requires
take-requires g c = record { given = c.requires c.in-Ok.valid c.in-Ok.ensures.given }

pub returns-in-Ok-take-clause-taken : goal.returns-in-Ok-take-clause-taken
returns-in-Ok-take-clause-taken g c =
    let kept = c.in-Ok-take.ensures in
    record {
      valid = c.in-Ok.valid;
      moves = c.in-Ok.ensures.moves;
      shown = c.in-Ok.ensures.shown;
      given = c.in-Ok.ensures.given;
      within = c.in-Ok.ensures.within;
      ended = kept.ended;
      bodies = kept.bodies;
      features = kept.features;
      resources = kept.resources;
      all_within = λ end all within. kept.within end all within;
    }

pub returns-in-Err-take-clause-refused : goal.returns-in-Err-take-clause-refused
returns-in-Err-take-clause-refused g c =
    inr (refl, record { valid = c.in-Ok.valid; moves = c.in-Ok.ensures.moves; shown = c.in-Ok.ensures.shown; given = c.in-Ok.ensures.given; keeps = c.in-Err-take.ensures.memory })

pub returns-in-Err-clause-refused : goal.returns-in-Err-clause-refused
returns-in-Err-clause-refused g c = inl (record { left = c.in-Err.ensures.moves; memory = c.in-Err.ensures.memory })
