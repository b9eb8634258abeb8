use Rattle.wasm_validator_tables.proofs.function.take.Goals as goal

pub returns-in-Ok-clause-taken : goal.returns-in-Ok-clause-taken
returns-in-Ok-clause-taken g c = record {
  valid = c.in-Ok.valid;
  moves = c.in-Ok.ensures.moves;
  shown = c.in-Ok.ensures.shown;
  given = c.in-Ok.ensures.given;
  gives = c.pick.ensures.gives;
  within = c.pick.ensures.within _ c.in-Ok.ensures.within;
}

pub returns-in-Err-clause-refused : goal.returns-in-Err-clause-refused
returns-in-Err-clause-refused g c = record { left = c.in-Err.ensures.moves; memory = c.in-Err.ensures.memory }
