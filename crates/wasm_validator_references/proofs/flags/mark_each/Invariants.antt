use Rattle.std.proofs.Common.{◌≡◌, ◌≤◌, ◌-◌, length, drop}
use Rattle.wasm_validator_references.specs.References.{marked}
use Rattle.wasm_validator_references.proofs.flags.mark_each.Given as goal

abbrev pub invariant-functions : goal.invariant-functions
invariant-functions g l = record {
  within : l.at ≤ length l.bytes;
  so_far : marked (drop l.at l.bytes) l.flags.items ≡ marked l.bytes l.fn.flags.items;
}

abbrev pub decreases-functions : goal.decreases-functions
decreases-functions g l = length l.bytes - l.at
