use Rattle.std.proofs.Common.{◌≡◌, ◌≤◌, ◌-◌, length, drop}
use Rattle.wasm_validator_references.specs.References.{marked}
use Rattle.wasm_validator_references.proofs.flags.set_each.Given as goal

abbrev pub invariant-functions : goal.invariant-functions
invariant-functions l = record {
  onward : l.from ≤ l.at;
  within : l.at ≤ length l.bytes;
  same : length l.flags ≡ length l.fn.flags;
  so_far : marked (drop l.at l.bytes) l.flags ≡ marked (drop l.from l.bytes) l.fn.flags;
}

abbrev pub decreases-functions : goal.decreases-functions
decreases-functions l = length l.bytes - l.at
