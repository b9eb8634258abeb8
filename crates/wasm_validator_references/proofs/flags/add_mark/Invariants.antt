use Rattle.std.proofs.Common.{◌≡◌, ◌≤◌, ◌-◌, length}
use Rattle.wasm_validator_references.specs.References.{mark}
use Rattle.wasm_validator_references.proofs.flags.add_mark.Given as goal

abbrev pub invariant-flags : goal.invariant-flags
invariant-flags g l = record {
  short : length l.flags.items ≤ l.place;
  so_far : mark l.place l.flags.items ≡ mark l.place l.fn.flags.items;
}

abbrev pub decreases-flags : goal.decreases-flags
decreases-flags g l = l.place - length l.flags.items
