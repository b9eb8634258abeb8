use Rattle.std.proofs.Common.{◌≡◌, ◌+◌, ◌<◌, ℕ, slice_get}
use Rattle.wasm_validator_type_groups.specs.Groups.{all_in}
use Rattle.wasm_validator_type_groups.proofs.known_groups.are_at.Given as goal

abbrev pub invariant-items : goal.invariant-items
invariant-items g l = record {
  place : l.place ≡ l.start + l.item-index;
  same : (i : ℕ) → i < l.item-index → slice_get (all_in l.groups) (l.start + i) ≡ slice_get l.items i;
}
