use Rattle.std.proofs.Common.{◌≡◌, slice_get, Some, option_map}
use Rattle.wasm_validator_handles.specs.Entities.{plain_of}
use Rattle.ruthvelka_c.proofs.ItemReports.{ToldUpto}
use Rattle.ruthvelka_c.proofs.externs.write_externs.Given as goal

abbrev pub invariant-externs : goal.invariant-externs
invariant-externs l = ToldUpto (λ k e. option_map plain_of (slice_get l.given k) ≡ Some e) l.k l.initial.to l.to
