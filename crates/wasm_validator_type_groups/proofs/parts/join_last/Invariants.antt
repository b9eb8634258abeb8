use Rattle.std.proofs.Common.{◌≡◌, length, map}
use Rattle.wasm_validator_type_groups.specs.Parts.{run_seen, all_items, RunsStand}
use Rattle.wasm_validator_type_groups.proofs.parts.join_last.Given as goal

abbrev pub invariant-runs : goal.invariant-runs
invariant-runs g l = RunsStand l.runs.items l.end × (all_items (map run_seen l.runs.items) ≡ all_items (map run_seen l.fn.runs.items))

abbrev pub decreases-runs : goal.decreases-runs
decreases-runs g l = length l.runs.items
