use Rattle.std.proofs.Common.{◌≤◌}
use Rattle.wasm_check.specs.Statuses.{IsWorst}
use Rattle.wasm_check.proofs.check.worst_status.Given as goal

abbrev pub invariant-places : goal.invariant-places
invariant-places l = record { known : l.worst ≤ 2; worst : IsWorst l.answers l.place l.worst }
