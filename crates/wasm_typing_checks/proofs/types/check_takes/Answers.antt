use Rattle.wasm_typing_checks.proofs.types.check_takes.Goals as goal

pub returns-in-Two : goal.returns-in-Two
returns-in-Two g c = rw c.in-Two.is c.check_two.ensures

pub returns-in-Ok : goal.returns-in-Ok
returns-in-Ok g c = rw (c.in-Three.is, c.in-Ok.ensures.0) c.check_two-in-Ok.ensures
