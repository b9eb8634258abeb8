-- Totals of runs.
use Rattle.std.proofs.Common.{refl, ◌+◌, [], ◌∷◌, length}
use Rattle.wasm_spec_rules.specs.Totals.{written_types, TotalsGoOn}

pub totals_go_on : TotalsGoOn
totals_go_on before [] more = refl
totals_go_on before (parts ∷ run) more = totals_go_on (before + length (written_types parts)) run more
