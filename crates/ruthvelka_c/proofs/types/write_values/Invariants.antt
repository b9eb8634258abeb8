use Rattle.std.proofs.Common.{◌≡◌, slice_get, Some, option_map}
use Rattle.wasm_validator_handles.specs.Signatures.{values_by_ids}
use Rattle.wasm_validator_handles.specs.Values.{numbers_of}
use Rattle.ruthvelka_c.proofs.ItemReports.{ToldUpto}
use Rattle.ruthvelka_c.proofs.types.write_values.Given as goal

abbrev pub invariant-values : goal.invariant-values
invariant-values l = ToldUpto (λ k v. option_map numbers_of (slice_get (values_by_ids l.start l.given) k) ≡ Some v) l.k l.initial.to l.to
