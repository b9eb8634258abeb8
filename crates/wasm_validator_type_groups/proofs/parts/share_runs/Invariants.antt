use Rattle.std.proofs.Common.{◌≡◌, take, map}
use Rattle.wasm_validator_type_groups.specs.Parts.{run_parts}
use Rattle.wasm_validator_type_groups.proofs.parts.share_runs.Given as goal

abbrev pub invariant-runs : goal.invariant-runs
invariant-runs g l = map run_parts l.shared.items ≡ map run_parts (take l.run-index l.run-items)
