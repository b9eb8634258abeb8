use Rattle.std.proofs.Common.{ℕ}
use Rattle.wasm_validator_func.proofs.Functions.{many_told, many_counted}
use Rattle.wasm_validator_func.proofs.func_validator.begin.Goals as goal

pub returns-in-Err-begun-clause-many : goal.returns-in-Err-begun-clause-many
returns-in-Err-begun-clause-many g c = many_told ℕ ℕ _ _ _ c.in-Err-begun.ensures.many c.at.ensures

pub returns-then-len_locals-gt-MAX_LOCALS-clause-many : goal.returns-then-len_locals-gt-MAX_LOCALS-clause-many
returns-then-len_locals-gt-MAX_LOCALS-clause-many g c =
    many_counted ℕ _ _ _ _ c.in-Ok-begun.ensures.begins.locals c.len_locals.ensures c.if-len_locals-gt-MAX_LOCALS.true
